-- The formulas that reads and terms of sums are, and what they read.
use Rattle.std.specs.Prelude.{ℕ, ℤ, pos, List, [], ◌∷◌, All, if◌then◌else◌}
use Rattle.std.specs.Ordering.{int_eq}
use Rattle.operators.specs.declared.operator.BinaryOp.{BinaryOp}
use Rattle.operators.specs.declared.operator.BinaryOp.TheVariants.{Add, Sub, Mul, Min, Max}
use Rattle.operators.specs.declared.operator.TernaryOp.TheVariants.{Clamp}
use Rattle.job.specs.Formula.{Formula, number, read, binary, ternary}
use Rattle.tile_eval.specs.Reading.{ReadsWithin}
use Rattle.narrow_sums.specs.declared.terms.NarrowSumRead.{NarrowSumRead}
use Rattle.narrow_sums.specs.declared.terms.NarrowSumDifference.{NarrowSumDifference}
use Rattle.narrow_sums.specs.declared.terms.NarrowSumPart.{NarrowSumPart}
use Rattle.narrow_sums.specs.declared.terms.NarrowSumPart.TheVariants.{Read, Difference}
use Rattle.narrow_sums.specs.declared.terms.NarrowSumTerm.{NarrowSumTerm}

-- ---- one term

abbrev pub read_formula : NarrowSumRead → Formula
read_formula x = read x.stage x.row x.col

abbrev pub difference_formula : NarrowSumDifference → Formula
difference_formula d =
    ternary Clamp (binary Sub (read_formula d.left) (read_formula d.right)) (number d.low) (number d.high)

abbrev pub part_formula : NarrowSumPart → Formula
part_formula (Read x) = read_formula x
part_formula (Difference d) = difference_formula d

-- a factor times a formula; a factor of 1 is not written
abbrev pub times : ℤ → Formula → Formula
times factor f = if int_eq factor (pos 1) then f else binary Mul (number factor) f

abbrev pub term_formula : NarrowSumTerm → Formula
term_formula t = times t.factor (part_formula t.part)

-- ---- lists of terms, which begin with the last one

-- the terms are joined to a formula
abbrev pub joined_terms : Formula → List NarrowSumTerm → Formula
joined_terms f [] = f
joined_terms f (t ∷ ts) = binary t.op (joined_terms f ts) (term_formula t)

-- a formula that no other one precedes: one that is subtracted is subtracted from 0
abbrev pub first_joined : BinaryOp → Formula → Formula
first_joined Add f = f
first_joined Sub f = binary Sub (number (pos 0)) f
first_joined Mul f = f
first_joined Min f = f
first_joined Max f = f

-- the terms alone
abbrev pub terms_formula : List NarrowSumTerm → Formula
terms_formula [] = number (pos 0)
terms_formula (t ∷ []) = first_joined t.op (term_formula t)
terms_formula (t ∷ u ∷ ts) = binary t.op (terms_formula (u ∷ ts)) (term_formula t)

-- each sample that they read is available, at the n points of row r from column c on
abbrev pub TermsWithin : (ℕ → ℤ → ℤ → Type 0) → List NarrowSumTerm → ℤ → ℤ → ℕ → Type 0
TermsWithin has ts r c n = All (λ t. ReadsWithin has (part_formula t.part) r c n) ts
