-- Functions that are a step of a restoring division.
use Rattle.std.specs.Prelude.{ℕ, ◌<◌, ◌^◌, ℤ, pos, ◌+ℤ◌, ◌-ℤ◌, ◌*ℤ◌, int_le, if◌then◌else◌, Option, Some, None}
use Rattle.std.specs.Int.{int_min}
use Rattle.std.specs.Option.{ForSome}
use Rattle.domains.specs.Arithmetic.{wrapped, floor_rem}
use Rattle.operators.specs.declared.operator.BinaryOp.TheVariants.{Add, Sub, Mul, Min}
use Rattle.operators.specs.declared.operator.LiteralOp.TheVariants.{Rem}
use Rattle.operators.specs.declared.operator.Relation.TheVariants.{AtMost}
use Rattle.wide_divisions.specs.Reads.{read_formula, IsAdjacentRead}
use Rattle.wide_divisions.specs.declared.reads.DivisionStepRead.{DivisionStepRead}
use Rattle.job.specs.Formula.{Formula, number, binary, literal, select}
use Rattle.wide_divisions.specs.declared.step.DivisionStepRest.{DivisionStepRest}
use Rattle.wide_divisions.specs.declared.step.DivisionStepRest.TheVariants.{Read, Capped}
use Rattle.wide_divisions.specs.declared.step.DivisionStep.{DivisionStep}

-- ---- the formulas of its parts

-- what a step begins with
abbrev pub rest_formula : DivisionStepRest → Formula
rest_formula (Read x) = read_formula x
rest_formula (Capped factor x most) = binary Mul (number factor) (binary Min (read_formula x) (number most))

-- a formula, times a power of two if there is one
abbrev pub shifted_formula : Option ℕ → Formula → Formula
shifted_formula None f = f
shifted_formula (Some bits) f = binary Mul (number (pos (2 ^ bits))) f

abbrev pub divisor_formula : DivisionStep → Formula
divisor_formula s = shifted_formula s.shift (read_formula s.divisor)

-- the lower bits of the rest
abbrev pub remainder_formula : DivisionStep → Formula
remainder_formula s = literal Rem (rest_formula s.rest) (2 ^ s.bits)

-- if the divisor is at most the remainder, it is subtracted from the rest, and the digit is added
abbrev pub step_formula : DivisionStep → Formula
step_formula s =
    select (divisor_formula s) AtMost (remainder_formula s)
    (binary Add (binary Sub (rest_formula s.rest) (divisor_formula s)) (number s.digit))
    (rest_formula s.rest)

-- ---- what can be computed of them

-- the read of what a step begins with
abbrev pub read_of_rest : DivisionStepRest → DivisionStepRead
read_of_rest (Read x) = x
read_of_rest (Capped factor x most) = x

abbrev pub IsRightRest : DivisionStepRest → Type 0
IsRightRest (Read x) = IsAdjacentRead x
IsRightRest (Capped factor x most) = IsAdjacentRead x

-- both reads take adjacent samples at adjacent points, and numbers of 32 bits have as many bits as are shifted and kept
pub record IsRightStep (s : DivisionStep) : Type 0 where
  pub rest : IsRightRest s.rest
  pub divisor : IsAdjacentRead s.divisor
  pub shift : ForSome s.shift (λ bits. bits < 32)
  pub bits : s.bits < 32

-- ---- what it is at a point

-- a number, times a power of two if there is one, in 32 bits
abbrev pub shifted : Option ℕ → ℤ → ℤ
shifted None v = v
shifted (Some bits) v = wrapped (v *ℤ pos (2 ^ bits))

-- if what is subtracted is at most the remainder, which is the lower bits of the rest, it is subtracted, and the digit is added
abbrev pub rest_after : (bits : ℕ) → (digit rest subtracted : ℤ) → ℤ
rest_after bits digit rest subtracted =
    if int_le subtracted (floor_rem rest (pos (2 ^ bits)))
    then wrapped (wrapped (rest -ℤ subtracted) +ℤ digit)
    else rest

-- what a step begins with, by the sample that it reads
abbrev pub rest_before : DivisionStepRest → ℤ → ℤ
rest_before (Read x) v = v
rest_before (Capped factor x most) v = wrapped (factor *ℤ int_min v most)

-- what a step makes of the samples of the rest and of the divisor
abbrev pub step_result : DivisionStep → (rest divisor : ℤ) → ℤ
step_result s rest divisor = rest_after s.bits s.digit (rest_before s.rest rest) (shifted s.shift divisor)
