-- Functions by cases that are computed in 16 bits, along a row of points.
use Rattle.std.specs.Prelude.{ℕ, ◌≡◌, ℤ, pos, ◌+ℤ◌, true, Option, List, All}
use Rattle.std.specs.Option.{option_map, ForSome}
use Rattle.domains.specs.Area.{HoldsPoint}
use Rattle.domains.specs.declared.area.Area.{Area}
use Rattle.job.specs.Formula.{Formula}
use Rattle.job.specs.Pipeline.{JobCase, function}
use Rattle.job.specs.Values.{Valuation, all_passed}
use Rattle.job.specs.Boxes.{AreBoxed, BoundsHold}
use Rattle.job.specs.Reads.{EachRead, BodyReads, formulas_of}
use Rattle.job.specs.WellFormed.{IsFormula, IsTest}
use Rattle.row_loops.specs.Rows.{EachPlace}
use Rattle.tile_eval.specs.Reading.{HasRoom, HasFunctionRoom}
use Rattle.tile_eval.specs.Cases.{InBox}
use Rattle.tile_eval.specs.inside.Cases.{IsRoomy}
use Rattle.value_ranges.specs.Narrow.{IsNarrow, IsNarrowFunction}
use Rattle.narrow_eval.specs.NarrowPrograms.{program_case, program_formula}
use Rattle.narrow_eval.specs.declared.narrow_case.NarrowCase.{NarrowCase}
use Rattle.narrow_eval.specs.declared.narrow_program.NarrowProgram.{NarrowProgram}

-- at a point: where its tests hold it lies in the box; there the bounds hold, all that the formula reads is available, and it is
-- narrow
pub record IsNarrowCase (has : ℕ → ℤ → ℤ → Type 0) (env : Valuation) (p : JobCase) (r c : ℤ) : Type 0 where
  pub passed : all_passed p.tests r c ≡ true → InBox p.box r c
  pub bounds : InBox p.box r c → BoundsHold p.tests r c
  pub reads : InBox p.box r c → EachRead has p.formula r c
  pub narrow : InBox p.box r c → IsNarrow env p.formula r c

-- along n points of row r from column c on, each case is ready and has capacity, and so has what holds elsewhere
pub record AreNarrowCases (has : ℕ → ℤ → ℤ → Type 0) (env : Valuation) (r c : ℤ) (n room : ℕ) (ps : List NarrowCase) (o : Option NarrowProgram)
    : Type 0 where
  pub cases : All (λ p. EachPlace n (λ k. IsNarrowCase has env (program_case p) r (c +ℤ pos k)) × IsRoomy n room (program_case p)) ps
  pub other : ForSome (option_map program_formula o) (λ f. EachPlace n (λ k. EachRead has f r (c +ℤ pos k) × IsNarrow env f r (c +ℤ pos k))
      × IsFormula f × HasRoom f n room)

-- a function is computable in 16 bits at n points of row r from column c on: they lie in a domain that has the boxes of the
-- cases, all that is read there is available, and each number fits in 16 bits
pub record IsNarrowComputable (has : ℕ → ℤ → ℤ → Type 0) (env : Valuation) (r c : ℤ) (n room : ℕ) (ps : List JobCase) (o : Option Formula)
    : Type 0 where
  pub tests : All (λ p. All IsTest p.tests) ps
  pub formulas : All IsFormula (formulas_of (function ps o))
  pub domain : Area
  pub inside : EachPlace n (λ k. HoldsPoint domain r (c +ℤ pos k))
  pub boxes : AreBoxed domain (function ps o)
  pub reads : EachPlace n (λ k. BodyReads has (function ps o) r (c +ℤ pos k))
  pub narrow : EachPlace n (λ k. IsNarrowFunction env ps o r (c +ℤ pos k))
  pub capacity : HasFunctionRoom n room ps o
