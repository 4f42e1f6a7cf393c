-- What rows make of sums has the values of their formulas.
use Rattle.std.proofs.Common.{arith, ℕ, ℤ, ◌≡◌, pos, ◌+ℤ◌, w16, ap, sym, ◌∙◌, refl, List, Some, None}
use Rattle.std.specs.Prelude.{Option, slice_index_or}
use Rattle.std.specs.Int.{int_wrap}
use Rattle.std.proofs.Math.IntN.{+ℤ_idr}
use Rattle.std.proofs.lemmas.Int.{ints, int_wrap_fits, SFits-int_wrap}
use Rattle.domains.specs.Arithmetic.{wrapped, floor_div}
use Rattle.job.specs.Formula.{Formula}
use Rattle.job.specs.Values.{Valuation, formula_value}
use Rattle.value_ranges.specs.Narrow.{Fits16, IsNarrow}
use Rattle.narrow_sums.specs.NarrowFormulas.{NarrowWithin}
use Rattle.narrow_sums.specs.NarrowSums.{Same16}
use Rattle.narrow_sums.specs.SumTerms.{joined_terms, terms_formula}
use Rattle.narrow_sums.specs.SumRows.{with_number, with_quotient, with_center, around_terms, sum_row_formula, joined_sum_formula}
use Rattle.narrow_sums.specs.declared.terms.NarrowSumRead.{NarrowSumRead}
use Rattle.narrow_sums.specs.declared.terms.NarrowSumTerm.{NarrowSumTerm}
use Rattle.narrow_sums.specs.declared.sum_row.NarrowSumQuotient.{NarrowSumQuotient}
use Rattle.narrow_sums.specs.declared.sum_row.NarrowSumRow.{NarrowSumRow}
use Rattle.narrow_sums.specs.inside.TermValues.{sample_of, terms_value}
use Rattle.narrow_sums.specs.inside.NearTerms.{AreGapsFitting}
use Rattle.narrow_sums.specs.inside.RowValues.{number_of, divisor_of, divided_value, centered_value, row_value}
use Rattle.narrow_sums.proofs.NarrowFormulas.{narrow_value, narrow_at, quotient_by_one, quotient_fits}
use Rattle.narrow_sums.proofs.NarrowAddends.{same_add, same_wrapped}
use Rattle.narrow_sums.proofs.TermLaws.{joined_value, alone_value, term_gap_fits}
use Rattle.narrow_sums.proofs.SumRows.{in_quotient, in_center, in_row, in_terms, in_terms_alone, narrow_inherits}

module _ (env : Valuation) (r c : ℤ) where
  number_value : (o : Option ℤ) (f : Formula) (z : ℤ) → IsNarrow env (with_number o f) r c → Same16 z (formula_value env f r c)
      → int_wrap w16 (z +ℤ number_of o) ≡ formula_value env (with_number o f) r c
  number_value None f z h is = ap (int_wrap w16) (+ℤ_idr z) ∙ is ∙ int_wrap_fits w16 (formula_value env f r c) (narrow_value env r c f h)
  number_value (Some n) f z h is =
      same_add z (formula_value env f r c) n n is refl
      ∙ sym (same_wrapped (formula_value env f r c +ℤ n))
      ∙ int_wrap_fits w16 (wrapped (formula_value env f r c +ℤ n)) h.2

  quotient_value : (o : Option NarrowSumQuotient) (f : Formula) (z : ℤ) → z ≡ formula_value env f r c
      → floor_div z (pos (divisor_of o)) ≡ formula_value env (with_quotient o f) r c
  quotient_value None f z is = quotient_by_one z ∙ is
  quotient_value (Some q) f z is = ap (λ (x : ℤ). floor_div x (pos q.divisor)) is ∙ sym (q.quotients (formula_value env f r c))

  turned : (a b : ℤ) → a +ℤ b ≡ b +ℤ a
  turned a b = omega (arith, ints)

  center_value : (o : Option NarrowSumRead) (f : Formula) (z : ℤ) → IsNarrow env (with_center o f) r c → z ≡ formula_value env f r c
      → centered_value env o z r c ≡ formula_value env (with_center o f) r c
  center_value None f z h is = is
  center_value (Some x) f z h is =
      ap (λ (y : ℤ). int_wrap w16 (y +ℤ sample_of env x r c)) is
      ∙ ap (int_wrap w16) (turned (formula_value env f r c) (sample_of env x r c))
      ∙ sym (same_wrapped (sample_of env x r c +ℤ formula_value env f r c))
      ∙ int_wrap_fits w16 (wrapped (sample_of env x r c +ℤ formula_value env f r c)) h.2

  pub divided_fits : (row : NarrowSumRow) (rest : ℤ) → Fits16 (divided_value env row rest r c)
  divided_fits row rest = quotient_fits _ (divisor_of row.quotient) (SFits-int_wrap w16 _)

  -- what a row makes of a sum that has the value of the formula of its terms
  row_is : (row : NarrowSumRow) (f : Formula) (rest : ℤ) → IsNarrow env (around_terms row f) r c
      → Same16 (rest +ℤ terms_value env row.terms.items r c) (formula_value env f r c)
      → row_value env row rest r c ≡ formula_value env (around_terms row f) r c
  row_is row f rest h is =
      let numbered : Formula = with_number row.number f in
      let divided : Formula = with_quotient row.quotient numbered in
      let in_divided : IsNarrow env divided r c = in_center (λ g. IsNarrow env g r c) (narrow_inherits env r c) row.center divided h in
      let in_numbered : IsNarrow env numbered r c =
      in_quotient (λ g. IsNarrow env g r c) (narrow_inherits env r c) row.quotient numbered in_divided in
      center_value row.center divided (divided_value env row rest r c) h
      (quotient_value row.quotient numbered _ (number_value row.number f _ in_numbered is))

  pub alone_is : (row : NarrowSumRow) (rest : ℤ) → rest ≡ pos 0 → IsNarrow env (sum_row_formula row) r c
      → row_value env row rest r c ≡ formula_value env (sum_row_formula row) r c
  alone_is row rest none h =
      let terms : List NarrowSumTerm = row.terms.items in
      row_is row (terms_formula terms) rest h
      (ap (λ (z : ℤ). int_wrap w16 (z +ℤ terms_value env terms r c)) none
      ∙ ap (int_wrap w16) (turned (pos 0) (terms_value env terms r c) ∙ +ℤ_idr (terms_value env terms r c))
      ∙ alone_value env r c terms (in_row (λ g. IsNarrow env g r c) (narrow_inherits env r c) row (terms_formula terms) h))

  pub joined_is : (row : NarrowSumRow) (f : Formula) (rest : ℤ) → rest ≡ formula_value env f r c → IsNarrow env (joined_sum_formula f row) r c
      → row_value env row rest r c ≡ formula_value env (joined_sum_formula f row) r c
  joined_is row f rest is h =
      let terms : List NarrowSumTerm = row.terms.items in
      row_is row (joined_terms f terms) rest h
      (ap (λ (z : ℤ). int_wrap w16 (z +ℤ terms_value env terms r c)) is
      ∙ joined_value env r c f terms (in_row (λ g. IsNarrow env g r c) (narrow_inherits env r c) row (joined_terms f terms) h))

-- ---- along a row

pub alone_gaps : (env : Valuation) (r c : ℤ) (n : ℕ) (row : NarrowSumRow) → NarrowWithin env (sum_row_formula row) r c n
    → AreGapsFitting env r c n row.terms.items
alone_gaps env r c n row h = λ k l i d m.
    term_gap_fits env r (c +ℤ pos k) (slice_index_or row.terms.items i d)
    (in_terms_alone (λ g. IsNarrow env g r (c +ℤ pos k)) (narrow_inherits env r (c +ℤ pos k)) row
    (narrow_at env r c n (sum_row_formula row) h k l) i d m)

pub joined_gaps : (env : Valuation) (r c : ℤ) (n : ℕ) (f : Formula) (row : NarrowSumRow) → NarrowWithin env (joined_sum_formula f row) r c n
    → AreGapsFitting env r c n row.terms.items
joined_gaps env r c n f row h = λ k l i d m.
    term_gap_fits env r (c +ℤ pos k) (slice_index_or row.terms.items i d)
    (in_terms (λ g. IsNarrow env g r (c +ℤ pos k)) (narrow_inherits env r (c +ℤ pos k)) f row
    (narrow_at env r c n (joined_sum_formula f row) h k l) i d m)
