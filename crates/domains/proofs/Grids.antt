-- The tiles of a grid: each point of the area lies in exactly one.
use Rattle.std.proofs.Common.{ℕ, ℤ, ◌≡◌, ◌*◌, sym, ◌∙◌, subst, length}
use Rattle.std.specs.List.{range_with_len}
use Rattle.std.proofs.lemmas.List.FromFn.{length-range_with_len}
use Rattle.domains.specs.declared.grid.Grid.{Grid}
use Rattle.domains.specs.Span.{Holds}
use Rattle.domains.specs.Area.{HoldsPoint}
use Rattle.domains.specs.Tiles.{IsPlace, IsTileOf, tile_rows, tile_cols, tiles_of}
use Rattle.domains.proofs.PairLists.{length-pairs}

-- a number that is the product of the rows and the columns of tiles counts the tiles
pub counts_tiles : (n : ℕ) (g : Grid) → n ≡ tile_rows g * tile_cols g → n ≡ length (tiles_of g)
counts_tiles n g e =
    e
    ∙ sym (length-pairs (range_with_len 0 (tile_rows g)) (range_with_len 0 (tile_cols g))
    ∙ (λ i. length-range_with_len 0 (tile_rows g) i * length-range_with_len 0 (tile_cols g) i))

-- the place of a row and the place of a column make up the tile of a point
pub tile_from : (g : Grid) (r c r' c' : ℤ) (height width i j : ℕ) → r' ≡ r → c' ≡ c → height ≡ g.sides.height → width ≡ g.sides.width
    → Holds g.area.rows r' × IsPlace g.area.rows height r' i → Holds g.area.cols c' × IsPlace g.area.cols width c' j
    → HoldsPoint g.area r c × IsTileOf g r c (i, j)
tile_from g r c r' c' height width i j er ec eh ew p q =
    let row =
    subst (λ (z : ℤ). Holds g.area.rows z × IsPlace g.area.rows g.sides.height z i) er
    (subst (λ (n : ℕ). Holds g.area.rows r' × IsPlace g.area.rows n r' i) eh p) in
    let col = subst (λ (z : ℤ). Holds g.area.cols z × IsPlace g.area.cols g.sides.width z j) ec
    (subst (λ (n : ℕ). Holds g.area.cols c' × IsPlace g.area.cols n c' j) ew q) in (
      (row.0, col.0),
      record {
        there = (row.1.there, col.1.there);
        holds = (row.1.holds, col.1.holds);
        only = λ k l h. (row.1.only k h.0, col.1.only l h.1);
      },
    )
