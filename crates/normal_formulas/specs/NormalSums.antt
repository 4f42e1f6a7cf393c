-- Sums of factors times terms, as formulas.
use Rattle.std.specs.Prelude.{ℕ, ℤ, ◌≡◌, Some, List, [], ◌∷◌, slice_get}
use Rattle.operators.specs.declared.operator.BinaryOp.TheVariants.{Add, Mul}
use Rattle.job.specs.Formula.{Formula, number, binary}
use Rattle.job.specs.Views.{formula_view}
use Rattle.normal_formulas.specs.declared.sums.NormalTerm.{NormalTerm}
use Rattle.normal_formulas.specs.declared.sums.NormalSum.{NormalSum}

-- a factor times a formula
abbrev pub product : ℤ → Formula → Formula
product f a = binary Mul (number f) a

abbrev pub term_formula : NormalTerm → Formula
term_formula t = product t.factor (formula_view t.term)

-- terms, and what they are added to
abbrev pub terms_over : Formula → List NormalTerm → Formula
terms_over base [] = base
terms_over base (t ∷ ts) = binary Add (term_formula t) (terms_over base ts)

abbrev pub sum_formula : NormalSum → Formula
sum_formula s = terms_over (number s.number) s.terms.items

-- the term at a place is this formula
pub record HasTerm (ts : List NormalTerm) (place : ℕ) (a : Formula) : Type 0 where
  pub term : NormalTerm
  pub there : slice_get ts place ≡ Some term
  pub is : formula_view term.term ≡ a
