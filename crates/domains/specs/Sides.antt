-- The height and the width of tiles.
use Rattle.std.specs.Prelude.{ℕ, ◌≤◌}

-- how contracts see the sides of tiles
pub record Sides : Type 0 where
  pub height : ℕ
  pub width : ℕ

-- what holds of the TileSides of the program: a tile has at most 1048576 points, as many as a fact may have
pub record IsSides (s : Sides) : Type 0 where
  pub height_least : 1 ≤ s.height
  pub height_most : s.height ≤ 1024
  pub width_least : 1 ≤ s.width
  pub width_most : s.width ≤ 1024
