-- The formulas that sums are, and what they read.
use Rattle.std.specs.Prelude.{ℕ, ℤ, Option, Some, None}
use Rattle.std.specs.Option.{ForSome, option_map_or}
use Rattle.operators.specs.declared.operator.BinaryOp.TheVariants.{Add}
use Rattle.job.specs.Formula.{Formula, number, binary, literal}
use Rattle.job.specs.Views.{formula_view}
use Rattle.tile_eval.specs.Reading.{ReadsWithin}
use Rattle.narrow_sums.specs.declared.terms.NarrowSumRead.{NarrowSumRead}
use Rattle.narrow_sums.specs.declared.sum_row.NarrowSumQuotient.{NarrowSumQuotient}
use Rattle.narrow_sums.specs.declared.sum_row.NarrowSumRow.{NarrowSumRow}
use Rattle.narrow_sums.specs.declared.sum_row.FoundNarrowSum.{FoundNarrowSum}
use Rattle.narrow_sums.specs.SumTerms.{read_formula, joined_terms, terms_formula, TermsWithin}

-- a number is added, if there is one
abbrev pub with_number : Option ℤ → Formula → Formula
with_number None f = f
with_number (Some n) f = binary Add f (number n)

-- a sum is divided, if there is a quotient
abbrev pub with_quotient : Option NarrowSumQuotient → Formula → Formula
with_quotient None f = f
with_quotient (Some q) f = literal q.op f q.literal

-- and added to a read, if there is one
abbrev pub with_center : Option NarrowSumRead → Formula → Formula
with_center None f = f
with_center (Some x) f = binary Add (read_formula x) f

-- what a row makes of the formula of its terms
abbrev pub around_terms : NarrowSumRow → Formula → Formula
around_terms row f = with_center row.center (with_quotient row.quotient (with_number row.number f))

-- the sum that stands alone
abbrev pub sum_row_formula : NarrowSumRow → Formula
sum_row_formula row = around_terms row (terms_formula row.terms.items)

-- the sum that begins with another formula
abbrev pub joined_sum_formula : Formula → NarrowSumRow → Formula
joined_sum_formula f row = around_terms row (joined_terms f row.terms.items)

-- the sum that was found
abbrev pub found_sum_formula : FoundNarrowSum → Formula
found_sum_formula found =
    option_map_or (λ f. joined_sum_formula (formula_view f.now) found.row) found.start (sum_row_formula found.row)

-- each sample that a row reads is available, at the n points of row r from column c on. What the formula reads that it begins with does
-- not count
abbrev pub RowReadsWithin : (ℕ → ℤ → ℤ → Type 0) → NarrowSumRow → ℤ → ℤ → ℕ → Type 0
RowReadsWithin has row r c n =
    ForSome row.center (λ x. ReadsWithin has (read_formula x) r c n) × TermsWithin has row.terms.items r c n
