-- A grid partitions an area into tiles of equal height and width. The last rows and columns of tiles may be smaller.
use Rattle.std.specs.Prelude.{ℕ, ◌+◌, ◌*◌, ◌/◌, ◌<◌, ℤ, pos, ◌≡◌, Bool, ◌&&◌, ◌+ℤ◌, ◌-ℤ◌, int_le, List, filter}
use Rattle.std.specs.Int.{int_min, int_gap, div_ceil}
use Rattle.std.specs.List.{range_with_len}
use Rattle.domains.specs.Span.{Ends, Holds, len_of}
use Rattle.domains.specs.Area.{HoldsPoint, IsArea}
use Rattle.domains.specs.Pairs.{pairs, IsBeforeBy}
use Rattle.domains.specs.Sides.{IsSides}
use Rattle.domains.specs.declared.area.Area.{Area}
use Rattle.domains.specs.declared.grid.Grid.{Grid}

-- what holds of each Grid of the program
pub record IsGrid (g : Grid) : Type 0 where
  pub area : IsArea g.area
  pub sides : IsSides g.sides

-- part i of a span that is split, from its least number on, into spans of `side` numbers; the last may have fewer
abbrev pub part_of : Ends → ℕ → ℕ → Ends
part_of s side i = record { lo = s.lo +ℤ pos (i * side); hi = int_min s.hi (s.lo +ℤ pos ((i + 1) * side) -ℤ pos 1) }

-- how many parts there are
abbrev pub part_count : Ends → ℕ → ℕ
part_count s side = div_ceil (len_of s) side

-- the part in which a number of the span lies
abbrev pub part_at : Ends → ℕ → ℤ → ℕ
part_at s side v = int_gap s.lo v / side

-- the number lies in part i, and in no other
pub record IsPlace (s : Ends) (side : ℕ) (v : ℤ) (i : ℕ) : Type 0 where
  pub there : i < part_count s side
  pub holds : Holds (part_of s side i) v
  pub only : (k : ℕ) → Holds (part_of s side k) v → k ≡ i

-- how many rows and columns of tiles there are
abbrev pub tile_rows : Grid → ℕ
tile_rows g = part_count g.area.rows g.sides.height

abbrev pub tile_cols : Grid → ℕ
tile_cols g = part_count g.area.cols g.sides.width

-- there is a tile in row i and column j of the grid
abbrev pub HasTile : Grid → ℕ → ℕ → Type 0
HasTile g i j = (i < tile_rows g) × (j < tile_cols g)

-- the area of that tile
abbrev pub tile_area : Grid → ℕ → ℕ → Area
tile_area g i j = record { rows = part_of g.area.rows g.sides.height i; cols = part_of g.area.cols g.sides.width j }

-- the tile in which a point of the area lies
abbrev pub tile_at : Grid → ℤ → ℤ → ℕ × ℕ
tile_at g r c = (part_at g.area.rows g.sides.height r, part_at g.area.cols g.sides.width c)

-- the point lies in this tile, and in no other
pub record IsTileOf (g : Grid) (r c : ℤ) (t : ℕ × ℕ) : Type 0 where
  pub there : HasTile g t.0 t.1
  pub holds : HoldsPoint (tile_area g t.0 t.1) r c
  pub only : (i j : ℕ) → HoldsPoint (tile_area g i j) r c → (i ≡ t.0) × (j ≡ t.1)

-- all tiles, row by row
abbrev pub tiles_of : Grid → List (ℕ × ℕ)
tiles_of g = pairs (range_with_len 0 (tile_rows g)) (range_with_len 0 (tile_cols g))

-- whether two spans have a number in common, and two areas a point
abbrev pub spans_meet : Ends → Ends → Bool
spans_meet a b = int_le a.lo b.hi && int_le b.lo a.hi

abbrev pub areas_meet : Area → Area → Bool
areas_meet a b = spans_meet a.rows b.rows && spans_meet a.cols b.cols

-- the tiles that have a point in common with an area, row by row
unfoldable pub cover : Grid → Area → List (ℕ × ℕ)
cover g a = filter (λ t. areas_meet (tile_area g t.0 t.1) a) (tiles_of g)

-- a point lies both in this tile of the grid and in the area
pub record MeetsTile (g : Grid) (a : Area) (i j : ℕ) : Type 0 where
  pub there : HasTile g i j
  pub row : ℤ
  pub col : ℤ
  pub in_tile : HoldsPoint (tile_area g i j) row col
  pub in_area : HoldsPoint a row col

-- a tile comes before another, row by row
abbrev pub IsBefore : ℕ × ℕ → ℕ × ℕ → Type 0
IsBefore s t = IsBeforeBy ◌<◌ ◌<◌ s t
