-- What is needed to evaluate cases along a row of points.
use Rattle.std.specs.Prelude.{ℕ, ◌-◌, ◌≤◌, ◌≡◌, ℤ, pos, ◌+ℤ◌, true, Option, List, All}
use Rattle.std.specs.Option.{option_map, ForSome}
use Rattle.job.specs.declared.formula.Formula.{Formula as KeptFormula}
use Rattle.job.specs.declared.stage.JobCase.{JobCase as KeptCase}
use Rattle.job.specs.Pipeline.{JobCase}
use Rattle.job.specs.Values.{all_passed}
use Rattle.job.specs.Boxes.{BoundsHold}
use Rattle.job.specs.Reads.{EachRead}
use Rattle.job.specs.Views.{case_view, formula_view}
use Rattle.job.specs.WellFormed.{IsFormula, IsTest}
use Rattle.row_loops.specs.Rows.{EachPlace}
use Rattle.tile_eval.specs.Reading.{HasRoom}
use Rattle.tile_eval.specs.Cases.{InBox}

-- at a point: where its tests hold it lies in the box; there the bounds hold, and all that the formula reads is available
pub record IsReady (has : ℕ → ℤ → ℤ → Type 0) (p : JobCase) (r c : ℤ) : Type 0 where
  pub passed : all_passed p.tests r c ≡ true → InBox p.box r c
  pub bounds : InBox p.box r c → BoundsHold p.tests r c
  pub reads : InBox p.box r c → EachRead has p.formula r c

-- the numbers of the text fit. For rows of n points there is capacity for the operands, and for one row more if a case is
-- evaluated before its tests
pub record IsRoomy (n room : ℕ) (p : JobCase) : Type 0 where
  pub formula : IsFormula p.formula
  pub tests : All IsTest p.tests
  pub row : n ≤ room
  pub operands : HasRoom p.formula n (room - n)

-- along n points of row r from column c on, each case is ready and has capacity. So has the other formula; its reads are
-- available
pub record AreReady (has : ℕ → ℤ → ℤ → Type 0) (r c : ℤ) (n room : ℕ) (ps : List KeptCase) (o : Option KeptFormula) : Type 0 where
  pub cases : All (λ p. EachPlace n (λ k. IsReady has (case_view p) r (c +ℤ pos k)) × IsRoomy n room (case_view p)) ps
  pub other : ForSome (option_map formula_view o) (λ f. EachPlace n (λ k. EachRead has f r (c +ℤ pos k)) × IsFormula f × HasRoom f n room)
