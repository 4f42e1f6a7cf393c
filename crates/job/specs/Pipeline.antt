-- A job as contracts see it: the stages of a program at its parameters' values, the supplied tables and picture, and the sides of
-- tiles.
use Rattle.std.specs.Prelude.{ℕ, ℤ, Option, List, slice_get}
use Rattle.std.specs.Option.{option_map_or}
use Rattle.domains.specs.Span.{Ends}
use Rattle.domains.specs.Sides.{Sides}
use Rattle.domains.specs.declared.area.Area.{Area}
use Rattle.netpbm.specs.Image.{Image}
use Rattle.operators.specs.declared.operator.ReductionOp.{ReductionOp}
use Rattle.tables.specs.declared.table.Table.{Table}
use Rattle.job.specs.Formula.{Formula, Test}

-- a formula where all tests hold. The box has the points of the domain at which the tests of bounds hold, if there are any
pub record JobCase : Type 0 where
  pub box : Option Area
  pub tests : List Test
  pub formula : Formula

-- what a stage is at each point: a plane of the picture, by its number; or cases, and what holds elsewhere. An accumulator has
-- how it joins which bins, and of each point the value and the bin
pub data Body : Type 0 where
  plane : ℕ → Body
  function : List JobCase → Option Formula → Body
  accumulator : ReductionOp → Ends → Formula → Formula → Body

-- the domain of an accumulator is the area that it reduces
pub record Stage : Type 0 where
  pub name : List ℕ
  pub rank : ℕ
  pub domain : Area
  pub body : Body

-- one function, or three for red, green and blue, and the greatest sample
pub record Output : Type 0 where
  pub stages : List ℕ
  pub max : ℕ

pub record Parameter : Type 0 where
  pub name : List ℕ
  pub value : ℤ

-- a stage's number is its place
pub record Pipeline : Type 0 where
  pub stages : List Stage
  pub output : Option Output
  pub params : List Parameter
  pub tables : List Table
  pub picture : Image
  pub sides : Sides

-- the rank of the stage of this number
abbrev pub rank_of : List Stage → ℕ → ℕ
rank_of stages g = option_map_or (λ s. s.rank) (slice_get stages g) 0
