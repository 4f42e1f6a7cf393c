-- What a step of a division is at a point.
use Rattle.std.proofs.Common.{ℕ, ◌^◌, ℤ, pos, ◌≡◌, Option, Some, None, ap, refl}
use Rattle.std.proofs.Math.IntN.{*ℤ_comm}
use Rattle.domains.specs.Arithmetic.{wrapped}
use Rattle.wide_divisions.specs.Reads.{read_formula}
use Rattle.job.specs.Formula.{Formula}
use Rattle.job.specs.Values.{Valuation, formula_value}
use Rattle.wide_divisions.specs.declared.step.DivisionStepRest.{DivisionStepRest}
use Rattle.wide_divisions.specs.declared.step.DivisionStepRest.TheVariants.{Read, Capped}
use Rattle.wide_divisions.specs.declared.step.DivisionStep.{DivisionStep}
use Rattle.wide_divisions.specs.DivisionSteps.{rest_formula, read_of_rest, shifted_formula, shifted, rest_before, rest_after}
use Rattle.wide_divisions.specs.DivisionSteps.{step_formula, step_result}

shifted_value : (env : Valuation) (shift : Option ℕ) (f : Formula) (r c : ℤ)
    → shifted shift (formula_value env f r c) ≡ formula_value env (shifted_formula shift f) r c
shifted_value env None f r c = refl
shifted_value env (Some bits) f r c = ap wrapped (*ℤ_comm (formula_value env f r c) (pos (2 ^ bits)))

rest_value : (env : Valuation) (rest : DivisionStepRest) (r c : ℤ)
    → rest_before rest (formula_value env (read_formula (read_of_rest rest)) r c) ≡ formula_value env (rest_formula rest) r c
rest_value env (Read x) r c = refl
rest_value env (Capped factor x most) r c = refl

pub step_value : (env : Valuation) (step : DivisionStep) (r c : ℤ)
    → step_result step (formula_value env (read_formula (read_of_rest step.rest)) r c) (formula_value env (read_formula step.divisor) r c)
    ≡ formula_value env (step_formula step) r c
step_value env step r c = λ i. rest_after step.bits step.digit
    (rest_value env step.rest r c i)
    (shifted_value env step.shift (read_formula step.divisor) r c i)
