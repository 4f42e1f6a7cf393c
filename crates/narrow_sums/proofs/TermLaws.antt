-- The values of terms, and of sums of them.
use Rattle.std.proofs.Common.{arith, ℤ, ◌≡◌, pos, ◌+ℤ◌, ◌-ℤ◌, ◌*ℤ◌, w16, w32, FitsSigned, ap, sym, subst, ◌∙◌, refl}
use Rattle.std.proofs.Common.{List, [], ◌∷◌, ◌++◌, Bool, true, false}
use Rattle.std.specs.Prelude.{if◌then◌else◌}
use Rattle.std.specs.Int.{int_wrap}
use Rattle.std.specs.Ordering.{int_eq}
use Rattle.std.proofs.Math.IntN.{+ℤ_idr}
use Rattle.std.proofs.lemmas.Bool.{false≢true}
use Rattle.std.proofs.lemmas.Bool.Decides.{Decides-int_eq}
use Rattle.std.proofs.lemmas.Int.{ints, int_wrap_fits}
use Rattle.domains.specs.Arithmetic.{wrapped, clamped}
use Rattle.operators.specs.declared.operator.BinaryOp.{BinaryOp}
use Rattle.operators.specs.declared.operator.BinaryOp.TheVariants.{Add, Sub, Mul, Min, Max}
use Rattle.operators.specs.Values.{binary_value}
use Rattle.job.specs.Formula.{Formula, number, binary}
use Rattle.job.specs.Values.{Valuation, formula_value}
use Rattle.value_ranges.specs.Narrow.{Fits16, IsNarrow}
use Rattle.narrow_sums.specs.NarrowSums.{Same16, adds, signed}
use Rattle.narrow_sums.specs.SumTerms.{part_formula, times, term_formula, joined_terms, first_joined, terms_formula}
use Rattle.narrow_sums.specs.declared.terms.NarrowSumPart.{NarrowSumPart}
use Rattle.narrow_sums.specs.declared.terms.NarrowSumPart.TheVariants.{Read, Difference}
use Rattle.narrow_sums.specs.declared.terms.NarrowSumTerm.{NarrowSumTerm}
use Rattle.narrow_sums.specs.inside.TermValues.{sample_of, part_value, term_value, terms_value}
use Rattle.narrow_sums.specs.inside.NearTerms.{gap}
use Rattle.narrow_sums.proofs.NarrowAddends.{same_add, same_wrapped, once_joined, product_joined, begun}

-- ---- lists

end_of : (a b c d : ℤ) → c ≡ b +ℤ d → a +ℤ c ≡ (a +ℤ b) +ℤ d
end_of a b c d e = omega (arith, ints)

pub terms_end : (env : Valuation) (r c : ℤ) (ts : List NarrowSumTerm) (t : NarrowSumTerm)
    → terms_value env (ts ++ t ∷ []) r c ≡ terms_value env ts r c +ℤ term_value env t r c
terms_end env r c [] t = turned (term_value env t r c)
  where
    turned : (z : ℤ) → z +ℤ pos 0 ≡ pos 0 +ℤ z
    turned z = omega (arith, ints)
terms_end env r c (x ∷ ts) t =
    end_of (term_value env x r c) (terms_value env ts r c) _ (term_value env t r c) (terms_end env r c ts t)

-- a term at the end of a list is joined before the others
pub joined_end : (f : Formula) (ts : List NarrowSumTerm) (t : NarrowSumTerm)
    → joined_terms f (ts ++ t ∷ []) ≡ joined_terms (binary t.op f (term_formula t)) ts
joined_end f [] t = refl
joined_end f (x ∷ ts) t = ap (λ (g : Formula). binary x.op g (term_formula x)) (joined_end f ts t)

pub alone_end : (ts : List NarrowSumTerm) (t : NarrowSumTerm)
    → terms_formula (ts ++ t ∷ []) ≡ joined_terms (first_joined t.op (term_formula t)) ts
alone_end [] t = refl
alone_end (x ∷ []) t = refl
alone_end (x ∷ y ∷ ts) t = ap (λ (g : Formula). binary x.op g (term_formula x)) (alone_end (y ∷ ts) t)

-- the first term of a sum is listed, and one that is joined to the others
pub first_listed : (f : Formula) (ts items : List NarrowSumTerm) (t : NarrowSumTerm) → items ≡ ts ++ t ∷ [] → t.op ≡ Add → f ≡ term_formula t
    → terms_formula items ≡ joined_terms f ts
first_listed f ts items t pushed op is =
    ap terms_formula pushed ∙ alone_end ts t
    ∙ ap (λ (g : Formula). joined_terms g ts) (ap (λ (o : BinaryOp). first_joined o (term_formula t)) op ∙ sym is)

pub more_listed : (f a b : Formula) (op : BinaryOp) (ts items : List NarrowSumTerm) (t : NarrowSumTerm) → f ≡ binary op a b
    → items ≡ ts ++ t ∷ [] → t.op ≡ op → b ≡ term_formula t → joined_terms a items ≡ joined_terms f ts
more_listed f a b op ts items t is pushed same last =
    ap (joined_terms a) pushed ∙ joined_end a ts t
    ∙ ap (λ (g : Formula). joined_terms g ts) ((λ i. binary (same i) a (sym last i)) ∙ sym is)

-- ---- one term at a point

module _ (env : Valuation) (r c : ℤ) where
  -- what a factor multiplies has the value of its formula
  part_is : (part : NarrowSumPart) → IsNarrow env (part_formula part) r c → part_value env part r c ≡ formula_value env (part_formula part) r c
  part_is (Read x) h = refl
  part_is (Difference d) h =
      let gap : ℤ = sample_of env d.left r c -ℤ sample_of env d.right r c in
      ap (λ (z : ℤ). clamped z d.low d.high) (sym (same_wrapped gap) ∙ int_wrap_fits w16 (wrapped gap) h.0.2)

  -- and its difference fits
  gap_fits : (part : NarrowSumPart) → IsNarrow env (part_formula part) r c → Fits16 (gap env part r c)
  gap_fits (Read x) h = omega (arith, ints)
  gap_fits (Difference d) h =
      let left = h.0.0 in
      let right = h.0.1 in
      let long : FitsSigned w32 (gap env (Difference d) r c) = omega (arith, ints, left, right) in
      subst Fits16 (int_wrap_fits w32 (gap env (Difference d) r c) long) h.0.2

  pub term_gap_fits : (t : NarrowSumTerm) → IsNarrow env (term_formula t) r c → Fits16 (gap env t.part r c)
  term_gap_fits t h = gap_fits t.part (inner (int_eq t.factor (pos 1)) h)
    where
      inner : (one : Bool) → IsNarrow env (if one then part_formula t.part else binary Mul (number t.factor) (part_formula t.part)) r c
          → IsNarrow env (part_formula t.part) r c
      inner true h = h
      inner false h = h.1

  module _ (op : BinaryOp) (s w factor : ℤ) (part : NarrowSumPart) (join : adds op ≡ true) (sign : Same16 w (signed op factor)) where
    factor_joined : IsNarrow env (times factor (part_formula part)) r c
        → Same16 (s +ℤ w *ℤ part_value env part r c) (binary_value op s (formula_value env (times factor (part_formula part)) r c))
    factor_joined = either (int_eq factor (pos 1)) refl
      where
        Of : Formula → Type 0
        Of f = IsNarrow env f r c → Same16 (s +ℤ w *ℤ part_value env part r c) (binary_value op s (formula_value env f r c))

        either : (one : Bool) → int_eq factor (pos 1) ≡ one → Of (if one then part_formula part else binary Mul (number factor) (part_formula part))
        either true e h =
            ap (λ (z : ℤ). int_wrap w16 (s +ℤ w *ℤ z)) (part_is part h)
            ∙ once_joined op s w (formula_value env (part_formula part) r c) join
            (sign ∙ ap (λ (z : ℤ). int_wrap w16 (signed op z)) ((Decides-int_eq factor (pos 1)).0 e))
        either false e h =
            ap (λ (z : ℤ). int_wrap w16 (s +ℤ w *ℤ z)) (part_is part h.1)
            ∙ product_joined op s w factor factor (formula_value env (part_formula part) r c) join sign refl

  -- a term is what its operator joins to a sum, wrapped at 16 bits
  term_joined : (t : NarrowSumTerm) (s : ℤ) → IsNarrow env (term_formula t) r c
      → Same16 (s +ℤ term_value env t r c) (binary_value t.op s (formula_value env (term_formula t) r c))
  term_joined t s h = factor_joined t.op s t.weight t.factor t.part t.joins t.weighs h

  -- ---- sums at a point

  moved : (v t rest : ℤ) → v +ℤ (t +ℤ rest) ≡ (v +ℤ rest) +ℤ t
  moved v t rest = omega (arith, ints)

  turned : (t rest : ℤ) → t +ℤ rest ≡ rest +ℤ t
  turned t rest = omega (arith, ints)

  -- terms that are joined to a formula
  pub joined_value : (f : Formula) (ts : List NarrowSumTerm) → IsNarrow env (joined_terms f ts) r c
      → Same16 (formula_value env f r c +ℤ terms_value env ts r c) (formula_value env (joined_terms f ts) r c)
  joined_value f [] h = ap (int_wrap w16) (+ℤ_idr (formula_value env f r c))
  joined_value f (t ∷ ts) h =
      ap (int_wrap w16) (moved (formula_value env f r c) (term_value env t r c) (terms_value env ts r c))
      ∙ same_add _ (formula_value env (joined_terms f ts) r c) (term_value env t r c) (term_value env t r c) (joined_value f ts h.0) refl
      ∙ term_joined t (formula_value env (joined_terms f ts) r c) h.1

  first_value : (op : BinaryOp) (f : Formula) (z : ℤ) → adds op ≡ true
      → (IsNarrow env f r c → Same16 (pos 0 +ℤ z) (binary_value op (pos 0) (formula_value env f r c))) → IsNarrow env (first_joined op f) r c
      → Same16 (z +ℤ pos 0) (formula_value env (first_joined op f) r c)
  first_value Add f z join is h = ap (int_wrap w16) (turned z (pos 0)) ∙ is h ∙ begun (formula_value env f r c)
  first_value Sub f z join is h = ap (int_wrap w16) (turned z (pos 0)) ∙ is h.1
  first_value Mul f z join is h = absurd (false≢true join)
  first_value Min f z join is h = absurd (false≢true join)
  first_value Max f z join is h = absurd (false≢true join)

  -- terms alone
  pub alone_value : (ts : List NarrowSumTerm) → IsNarrow env (terms_formula ts) r c
      → Same16 (terms_value env ts r c) (formula_value env (terms_formula ts) r c)
  alone_value [] h = refl
  alone_value (t ∷ []) h = first_value t.op (term_formula t) (term_value env t r c) t.joins (term_joined t (pos 0)) h
  alone_value (t ∷ u ∷ ts) h =
      ap (int_wrap w16) (turned (term_value env t r c) (terms_value env (u ∷ ts) r c))
      ∙ same_add _ (formula_value env (terms_formula (u ∷ ts)) r c) (term_value env t r c) (term_value env t r c) (alone_value (u ∷ ts) h.0) refl
      ∙ term_joined t (formula_value env (terms_formula (u ∷ ts)) r c) h.1
