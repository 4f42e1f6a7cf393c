-- An area is the set of the points whose row lies in one span and whose column lies in another.
use Rattle.std.specs.Prelude.{ℕ, ◌*◌, ℤ, ◌<ℤ◌, ◌↔◌, List}
use Rattle.domains.specs.Span.{Holds, IsSpan, meet_of, hull_of, len_of, numbers_of}
use Rattle.domains.specs.Pairs.{pairs, IsBeforeBy}
use Rattle.domains.specs.declared.area.Area.{Area}

-- the point of row r and column c lies in the area
abbrev pub HoldsPoint : Area → ℤ → ℤ → Type 0
HoldsPoint a r c = Holds a.rows r × Holds a.cols c

-- what holds of each Area of the program: its two sides are spans
pub record IsArea (a : Area) : Type 0 where
  pub rows : IsSpan a.rows
  pub cols : IsSpan a.cols

-- each point of a is one of b
abbrev pub IsSubarea : Area → Area → Type 0
IsSubarea a b = (r c : ℤ) → HoldsPoint a r c → HoldsPoint b r c

-- m is the intersection of a and b
abbrev pub IsCommon : Area → Area → Area → Type 0
IsCommon a b m = (r c : ℤ) → HoldsPoint m r c ↔ (HoldsPoint a r c × HoldsPoint b r c)

-- a and b have no point in common
abbrev pub AreDisjoint : Area → Area → Type 0
AreDisjoint a b = (r c : ℤ) → ¬ (HoldsPoint a r c × HoldsPoint b r c)

-- h is the least area that holds both a and b
pub record IsAreaHull (a b h : Area) : Type 0 where
  pub first : IsSubarea a h
  pub second : IsSubarea b h
  pub least : (s : Area) → IsSubarea a s → IsSubarea b s → IsSubarea h s

-- the intersection of two areas that have a point in common, by its spans
abbrev pub common_of : Area → Area → Area
common_of a b = record { rows = meet_of a.rows b.rows; cols = meet_of a.cols b.cols }

-- the bounding box of two areas, by its spans
abbrev pub area_hull : Area → Area → Area
area_hull a b = record { rows = hull_of a.rows b.rows; cols = hull_of a.cols b.cols }

-- how many points an area has
abbrev pub point_count : Area → ℕ
point_count a = len_of a.rows * len_of a.cols

-- the points of an area, row by row
abbrev pub points_of : Area → List (ℤ × ℤ)
points_of a = pairs (numbers_of a.rows) (numbers_of a.cols)

-- a point comes before another, row by row
abbrev pub IsPointBefore : ℤ × ℤ → ℤ × ℤ → Type 0
IsPointBefore p q = IsBeforeBy ◌<ℤ◌ ◌<ℤ◌ p q
