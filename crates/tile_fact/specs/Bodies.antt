-- The kind and the numbers of a body.
use Rattle.std.specs.Prelude.{ℕ, ℤ, ◌≤◌, List, length}
use Rattle.tile_fact.specs.declared.body.Body.{Body}
use Rattle.tile_fact.specs.declared.body.Body.TheVariants.{Tile, Partial}

-- 0 for a tile, 1 for a partial
abbrev pub kind : Body → ℕ
kind (Tile samples) = 0
kind (Partial bins) = 1

abbrev pub numbers : Body → List ℤ
numbers (Tile samples) = samples
numbers (Partial bins) = bins

-- no more numbers than a fact may have
abbrev pub IsWithin : Body → Type 0
IsWithin (Tile samples) = length samples ≤ 1048576
IsWithin (Partial bins) = length bins ≤ 4096
