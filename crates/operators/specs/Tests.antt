-- Tests of the coordinates of a point.
use Rattle.std.specs.Prelude.{ℕ, ℤ}
use Rattle.operators.specs.declared.operator.Relation.{Relation}

-- the first coordinate of a point is its row, the second its column
pub data Axis : Type 0 where
  row : Axis
  column : Axis

-- a coordinate compared with a number, or its remainder by a modulus
pub data Test : Type 0 where
  compare : Axis → Relation → ℤ → Test
  remainder : Axis → ℕ → ℕ → Test
