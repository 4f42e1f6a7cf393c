-- The tiles of a grid that have a point in common with an area.
use Rattle.std.proofs.Common.{ℕ, ℤ, pos, ◌≡◌, ◌-◌, ◌*◌, ◌<◌, ◌≤◌, ◌+ℤ◌, ◌∙◌, max, sym, subst, arith, ◌↔◌, IsTrue, List, filter}
use Rattle.std.specs.Prelude.{AllPairs, Contains}
use Rattle.std.specs.Int.{int_max}
use Rattle.std.specs.List.{range_with_len}
use Rattle.std.proofs.lemmas.Int.{ints}
use Rattle.std.proofs.lemmas.Bool.{and_parts, and_from}
use Rattle.std.proofs.lemmas.List.Kept.{AllPairs-filter}
use Rattle.domains.specs.declared.area.Area.{Area}
use Rattle.domains.specs.declared.grid.Grid.{Grid}
use Rattle.domains.specs.Span.{Ends, Holds, IsSpan, len_of}
use Rattle.domains.specs.Area.{HoldsPoint, AreDisjoint, IsArea}
use Rattle.domains.specs.Sides.{IsSides}
use Rattle.domains.specs.Pairs.{pairs}
use Rattle.domains.specs.Tiles.{part_of, part_count, spans_meet, areas_meet, tile_rows, tile_cols, tile_area, tile_at, tiles_of}
use Rattle.domains.specs.Tiles.{IsGrid, HasTile, IsTileOf, MeetsTile, IsBefore, cover}
use Rattle.domains.proofs.PairLists.{filter-pairs, filter-range, AllPairs-pairs, AllPairs-range, Contains-filter}
use Rattle.domains.proofs.PairLists.{Contains-from_filter, Contains-pairs, Contains-from_pairs, Contains-range}
use Rattle.domains.proofs.PairLists.{Contains-from_range}
use Rattle.domains.proofs.PartsOfSpans.{part_fits, part_inside, place_is, place_only, starts_within, starts_in}
use Rattle.domains.proofs.Lengths.{len_is}
use Rattle.domains.proofs.Meetings.{common_number, meets_where_both_hold}

-- of the parts of s, those from first up to before last meet o
abbrev pub AreMeeting : Ends → ℕ → Ends → ℕ → ℕ → Type 0
AreMeeting s side o first last = (k : ℕ) → k < part_count s side → IsTrue (spans_meet (part_of s side k) o) ↔ ((first ≤ k) × (k < last))

filter_meeting : (s : Ends) (side : ℕ) (o : Ends) (first last : ℕ) → AreMeeting s side o first last → last ≤ part_count s side
    → filter (λ k. spans_meet (part_of s side k) o) (range_with_len 0 (part_count s side)) ≡ range_with_len first (last - first)
filter_meeting s side o first last f h =
    let from : max 0 first ≡ first = omega arith in
    filter-range (λ k. spans_meet (part_of s side k) o) first last 0 (part_count s side) (λ k low high. f k (omega arith)) (omega arith)
    ∙ (λ i. range_with_len (from i) (last - from i))

-- the cover is the rows that meet with the columns that meet
pub cover_is : (g : Grid) (a : Area) (first last left right : ℕ) → AreMeeting g.area.rows g.sides.height a.rows first last
    → last ≤ tile_rows g → AreMeeting g.area.cols g.sides.width a.cols left right → right ≤ tile_cols g
    → pairs (range_with_len first (last - first)) (range_with_len left (right - left)) ≡ cover g a
unfolding cover
cover_is g a first last left right rows in_rows cols in_cols =
    sym (filter-pairs (λ k. spans_meet (part_of g.area.rows g.sides.height k) a.rows)
    (λ k. spans_meet (part_of g.area.cols g.sides.width k) a.cols) (range_with_len 0 (tile_rows g)) (range_with_len 0 (tile_cols g))
    ∙ (λ i. pairs (filter_meeting g.area.rows g.sides.height a.rows first last rows in_rows i)
    (filter_meeting g.area.cols g.sides.width a.cols left right cols in_cols i)))

-- a list of all tiles has exactly the tiles that are there
pub Contains-tiles_of : (g : Grid) (i j : ℕ) → Contains (tiles_of g) (i, j) ↔ HasTile g i j
Contains-tiles_of g i j = (
  (λ h.
      let both = Contains-from_pairs (range_with_len 0 (tile_rows g)) (range_with_len 0 (tile_cols g)) i j h in
      let row = Contains-from_range 0 (tile_rows g) i both.0 in
      let col = Contains-from_range 0 (tile_cols g) j both.1 in
      let row_end = row.1 in let col_end = col.1 in
      (omega arith, omega arith)),
  (λ h.
      let row = h.0 in let col = h.1 in
      Contains-pairs (range_with_len 0 (tile_rows g)) (range_with_len 0 (tile_cols g)) i j
      (Contains-range 0 (tile_rows g) i (omega arith) (omega arith)) (Contains-range 0 (tile_cols g) j (omega arith) (omega arith))),
)

-- the cover has exactly the tiles that have a point in common with the area
pub cover_exact : (g : Grid) (a : Area) → IsArea g.area → IsArea a → IsSides g.sides → (i j : ℕ) → Contains (cover g a) (i, j)
    ↔ MeetsTile g a i j
unfolding cover
cover_exact g a ga aa sides i j = (to, from)
  where
    to : Contains (cover g a) (i, j) → MeetsTile g a i j
    to h =
        let kept = Contains-from_filter (λ t. areas_meet (tile_area g t.0 t.1) a) (tiles_of g) (i, j) h in
        let there = (Contains-tiles_of g i j).0 kept.0 in
        let both = and_parts (spans_meet (tile_area g i j).rows a.rows) (spans_meet (tile_area g i j).cols a.cols) kept.1 in
        let row =
        common_number (tile_area g i j).rows a.rows (part_fits g.area.rows g.sides.height i ga.rows sides.height_least there.0).ordered
        aa.rows.ordered both.0 in
        let col =
        common_number (tile_area g i j).cols a.cols (part_fits g.area.cols g.sides.width j ga.cols sides.width_least there.1).ordered
        aa.cols.ordered both.1 in
        record {
          there = there;
          row = int_max (tile_area g i j).rows.lo a.rows.lo;
          col = int_max (tile_area g i j).cols.lo a.cols.lo;
          in_tile = (row.0, col.0);
          in_area = (row.1, col.1);
        }

    from : MeetsTile g a i j → Contains (cover g a) (i, j)
    from m =
        Contains-filter (λ t. areas_meet (tile_area g t.0 t.1) a) (tiles_of g) (i, j) ((Contains-tiles_of g i j).1 m.there)
        (and_from (spans_meet (tile_area g i j).rows a.rows) (spans_meet (tile_area g i j).cols a.cols)
        (meets_where_both_hold (tile_area g i j).rows a.rows m.row m.in_tile.0 m.in_area.0)
        (meets_where_both_hold (tile_area g i j).cols a.cols m.col m.in_tile.1 m.in_area.1))

pub tiles_in_order : (g : Grid) → AllPairs IsBefore (tiles_of g)
tiles_in_order g =
    AllPairs-pairs ◌<◌ ◌<◌ (range_with_len 0 (tile_rows g)) (range_with_len 0 (tile_cols g)) (AllPairs-range 0 (tile_rows g))
    (AllPairs-range 0 (tile_cols g))

pub cover_in_order : (g : Grid) (a : Area) → AllPairs IsBefore (cover g a)
unfolding cover
cover_in_order g a = AllPairs-filter IsBefore (λ t. areas_meet (tile_area g t.0 t.1) a) (tiles_of g) (tiles_in_order g)

-- the same, of the list that the code makes
pub exact_from : (g : Grid) (a : Area) (ts : List (ℕ × ℕ)) → ts ≡ cover g a → IsArea g.area → IsArea a → IsSides g.sides → (i j : ℕ)
    → Contains ts (i, j) ↔ MeetsTile g a i j
exact_from g a ts e ga aa sides i j = subst (λ us. Contains us (i, j) ↔ MeetsTile g a i j) (sym e) (cover_exact g a ga aa sides i j)

pub in_order_from : (g : Grid) (a : Area) (ts : List (ℕ × ℕ)) → ts ≡ cover g a → AllPairs IsBefore ts
in_order_from g a ts e = subst (AllPairs IsBefore) (sym e) (cover_in_order g a)

-- ---- what a grid amounts to

pub tile_is : (g : Grid) (r c : ℤ) → IsGrid g → HoldsPoint g.area r c → IsTileOf g r c (tile_at g r c)
tile_is g r c h k =
    let row = place_is g.area.rows g.sides.height r h.sides.height_least h.area.rows k.0 in
    let col = place_is g.area.cols g.sides.width c h.sides.width_least h.area.cols k.1 in
    record {
      there = (row.there, col.there);
      holds = (row.holds, col.holds);
      only = λ i j f. (row.only i f.0, col.only j f.1);
    }

pub tile_inside : (g : Grid) (i j : ℕ) (r c : ℤ) → HoldsPoint (tile_area g i j) r c → HoldsPoint g.area r c
tile_inside g i j r c h = (part_inside g.area.rows g.sides.height i r h.0, part_inside g.area.cols g.sides.width j c h.1)

pub tiles_apart : (g : Grid) (i j k l : ℕ) → IsGrid g → ¬ ((i ≡ k) × (j ≡ l)) → AreDisjoint (tile_area g i j) (tile_area g k l)
tiles_apart g i j k l h n r c both =
    let rows = h.sides.height_least in
    let cols = h.sides.width_least in
    n (
      place_only g.area.rows g.sides.height r i rows both.0.0 ∙ sym (place_only g.area.rows g.sides.height r k rows both.1.0),
      place_only g.area.cols g.sides.width c j cols both.0.1 ∙ sym (place_only g.area.cols g.sides.width c l cols both.1.1),
    )

pub tile_fits : (g : Grid) (i j : ℕ) → IsGrid g → HasTile g i j → IsArea (tile_area g i j)
tile_fits g i j h k = record {
  rows = part_fits g.area.rows g.sides.height i h.area.rows h.sides.height_least k.0;
  cols = part_fits g.area.cols g.sides.width j h.area.cols h.sides.width_least k.1;
}

part_begins : (s : Ends) (side i : ℕ) → IsSpan s → 1 ≤ side → (i < part_count s side) ↔ Holds s (s.lo +ℤ pos (i * side))
part_begins s side i h p = (
  (λ k. (omega (arith, ints), starts_within s side i h p k)),
  (λ k. let high = k.1 in starts_in (len_of s) side i p (omega (arith, ints, len_is s h))),
)

pub tile_begins : (g : Grid) (i j : ℕ) → IsGrid g → HasTile g i j
    ↔ HoldsPoint g.area (g.area.rows.lo +ℤ pos (i * g.sides.height)) (g.area.cols.lo +ℤ pos (j * g.sides.width))
tile_begins g i j h =
    let row = part_begins g.area.rows g.sides.height i h.area.rows h.sides.height_least in
    let col = part_begins g.area.cols g.sides.width j h.area.cols h.sides.width_least in
    ((λ k. (row.0 k.0, col.0 k.1)), (λ k. (row.1 k.0, col.1 k.1)))

-- the tiles of a cover hold each point in common
pub cover_holds : (g : Grid) (a : Area) (r c : ℤ) → IsGrid g → HoldsPoint g.area r c → HoldsPoint a r c
    → Contains (cover g a) (tile_at g r c) × IsTileOf g r c (tile_at g r c)
unfolding cover
cover_holds g a r c h k m =
    let t = tile_at g r c in
    let tile = tile_is g r c h k in (
      Contains-filter (λ u. areas_meet (tile_area g u.0 u.1) a) (tiles_of g) t ((Contains-tiles_of g t.0 t.1).1 tile.there)
          (and_from (spans_meet (tile_area g t.0 t.1).rows a.rows) (spans_meet (tile_area g t.0 t.1).cols a.cols)
          (meets_where_both_hold (tile_area g t.0 t.1).rows a.rows r tile.holds.0 m.0)
          (meets_where_both_hold (tile_area g t.0 t.1).cols a.cols c tile.holds.1 m.1)),
      tile,
    )
