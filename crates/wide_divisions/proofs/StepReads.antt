-- What a step of a division reads.
use Rattle.std.proofs.Common.{arith, ℕ, ℤ, ◌≡◌, Option, Some, None, [], ◌∷◌, refl}
use Rattle.domains.specs.Index.{index_at}
use Rattle.job.specs.Formula.{Formula}
use Rattle.job.specs.Reads.{EachRead, Read as ReadIn, reads_in, point}
use Rattle.wide_divisions.specs.Reads.{IsAdjacentRead}
use Rattle.wide_divisions.specs.declared.reads.DivisionStepRead.{DivisionStepRead}
use Rattle.wide_divisions.specs.declared.step.DivisionStepRest.{DivisionStepRest}
use Rattle.wide_divisions.specs.declared.step.DivisionStepRest.TheVariants.{Read, Capped}
use Rattle.wide_divisions.specs.declared.step.DivisionStep.{DivisionStep}
use Rattle.wide_divisions.specs.DivisionSteps.{read_of_rest, rest_formula, shifted_formula, step_formula, IsRightRest}

-- a factor reads nothing more
shifted_reads : (shift : Option ℕ) (f : Formula) → reads_in (shifted_formula shift f) ≡ reads_in f
shifted_reads None f = refl
shifted_reads (Some bits) f = refl

-- what a step begins with reads one stage
abbrev taken : DivisionStepRead → ReadIn
taken x = point x.stage x.row.now x.col.now

rest_reads : (rest : DivisionStepRest) → reads_in (rest_formula rest) ≡ taken (read_of_rest rest) ∷ []
rest_reads (Read x) = refl
rest_reads (Capped factor x most) = refl

-- and takes adjacent samples of it
pub rest_adjacent : (rest : DivisionStepRest) → IsRightRest rest → IsAdjacentRead (read_of_rest rest)
rest_adjacent (Read x) right = right
rest_adjacent (Capped factor x most) right = right

module _ (has : ℕ → ℤ → ℤ → Type 0) (r c : ℤ) where
  abbrev IsRead : DivisionStepRead → Type 0
  IsRead x = has x.stage (index_at x.row.now r) (index_at x.col.now c)

  -- what it reads is available
  pub step_reads : (step : DivisionStep) → EachRead has (step_formula step) r c → IsRead (read_of_rest step.rest) × IsRead step.divisor
  step_reads step h =
      let each = simp (shifted_reads, rest_reads) at h in
      let other = taken step.divisor in
      (each 1 other (omega arith), each 0 other (omega arith))
