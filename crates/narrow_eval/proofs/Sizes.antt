-- A sum is at least as large as what it begins with.
use Rattle.std.proofs.Common.{arith, ℕ, suc, ℤ, ◌+◌, ◌≤◌, List, [], ◌∷◌, Option, None, Some}
use Rattle.job.specs.Formula.{Formula}
use Rattle.narrow_sums.specs.SumRows.{with_number, with_quotient, with_center, joined_sum_formula}
use Rattle.narrow_sums.specs.SumTerms.{joined_terms}
use Rattle.narrow_sums.specs.declared.sum_row.NarrowSumQuotient.{NarrowSumQuotient}
use Rattle.narrow_sums.specs.declared.sum_row.NarrowSumRow.{NarrowSumRow}
use Rattle.narrow_sums.specs.declared.terms.NarrowSumRead.{NarrowSumRead}
use Rattle.narrow_sums.specs.declared.terms.NarrowSumTerm.{NarrowSumTerm}
use Rattle.narrow_eval.specs.inside.Sizes.{formula_size}

joined_more : (f : Formula) (ts : List NarrowSumTerm) → formula_size f ≤ formula_size (joined_terms f ts)
joined_more f [] = omega arith
joined_more f (t ∷ ts) = let less : formula_size f ≤ formula_size (joined_terms f ts) = joined_more f ts in omega (arith, less)

number_more : (o : Option ℤ) (f : Formula) → formula_size f ≤ formula_size (with_number o f)
number_more None f = omega arith
number_more (Some n) f = omega arith

quotient_more : (o : Option NarrowSumQuotient) (f : Formula) → formula_size f ≤ formula_size (with_quotient o f)
quotient_more None f = omega arith
quotient_more (Some q) f = omega arith

center_more : (o : Option NarrowSumRead) (f : Formula) → formula_size f ≤ formula_size (with_center o f)
center_more None f = omega arith
center_more (Some x) f = omega arith

pub start_less : (f : Formula) (row : NarrowSumRow) → formula_size f ≤ formula_size (joined_sum_formula f row)
start_less f row =
    let terms = joined_more f row.terms.items in
    let number = number_more row.number (joined_terms f row.terms.items) in
    let quotient = quotient_more row.quotient (with_number row.number (joined_terms f row.terms.items)) in
    let center = center_more row.center (with_quotient row.quotient (with_number row.number (joined_terms f row.terms.items))) in
    omega (arith, terms, number, quotient, center)
