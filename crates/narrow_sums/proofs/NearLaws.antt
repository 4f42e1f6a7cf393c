-- Sums whose terms are all differences from their center.
use Rattle.std.proofs.Common.{arith, ℕ, ℤ, ◌≡◌, ◌+◌, ◌-◌, ◌<◌, ◌≤◌, pos, ◌+ℤ◌, ◌-ℤ◌, ◌*ℤ◌, w16, ap, sym, subst, ◌∙◌}
use Rattle.std.proofs.Common.{List, [], ◌∷◌, ◌++◌, All, length, take, drop, set}
use Rattle.std.specs.Prelude.{slice_index_or}
use Rattle.std.specs.Int.{int_wrap}
use Rattle.std.proofs.lemmas.Int.{ints, int_wrap_fits, int_wrap-add_left}
use Rattle.std.proofs.lemmas.List.{take_more, take_more_set, take-append-drop, take-take, drop-take}
use Rattle.std.proofs.lemmas.List.Elements.{All-nil, All-cons, All-append}
use Rattle.domains.specs.Arithmetic.{clamped}
use Rattle.job.specs.Values.{Valuation}
use Rattle.row_loops.specs.Rows.{at}
use Rattle.value_ranges.specs.Narrow.{Fits16}
use Rattle.narrow_kernels.specs.declared.narrow_taps.NarrowTap.{NarrowTap}
use Rattle.narrow_kernels.specs.declared.narrow_centers.NarrowCenter.{NarrowCenter}
use Rattle.narrow_kernels.specs.NarrowCenters.{centered_tap_at, centered_tap_sum}
use Rattle.narrow_sums.specs.declared.terms.NarrowSumRead.{NarrowSumRead}
use Rattle.narrow_sums.specs.declared.terms.NarrowSumBounds.{NarrowSumBounds}
use Rattle.narrow_sums.specs.declared.terms.NarrowSumDifference.{NarrowSumDifference}
use Rattle.narrow_sums.specs.declared.terms.NarrowSumPart.{NarrowSumPart}
use Rattle.narrow_sums.specs.declared.terms.NarrowSumPart.TheVariants.{Read, Difference}
use Rattle.narrow_sums.specs.declared.terms.NarrowSumTerm.{NarrowSumTerm}
use Rattle.narrow_sums.specs.inside.TermValues.{sample_of, term_value}
use Rattle.narrow_sums.specs.inside.TermOrders.{ordered_value, numbered_value}
use Rattle.narrow_sums.specs.inside.NearTerms.{gap, near_read, IsNear, IsNearSum}
use Rattle.tile_eval.specs.Reading.{ReadsWithin}
use Rattle.narrow_sums.specs.SumTerms.{read_formula, part_formula}
use Rattle.narrow_sums.proofs.TermOrders.{numbered_is, ordered_append}

-- ---- what is found

pub near_part : (center : NarrowSumRead) (bounds : NarrowSumBounds) (part : NarrowSumPart) (d : NarrowSumDifference) → part ≡ Difference d
    → d.low ≡ bounds.low → d.high ≡ bounds.high → ((env : Valuation) (r c : ℤ) → sample_of env d.right r c ≡ sample_of env center r c)
    → IsNear center bounds part
near_part center bounds part d is low high same =
    subst (IsNear center bounds) (sym is) (λ env r c. (
      ap (λ (z : ℤ). sample_of env d.left r c -ℤ z) (same env r c),
      (λ i. clamped (int_wrap w16 (gap env (Difference d) r c)) (low i) (high i)),
    ))

pub near_more : (center : NarrowSumRead) (bounds : NarrowSumBounds) (ts : List NarrowSumTerm) (k : ℕ) (t : NarrowSumTerm) → k < length ts
    → All (λ u. IsNear center bounds u.part) (take k ts) → IsNear center bounds (slice_index_or ts k t).part
    → All (λ u. IsNear center bounds u.part) (take (k + 1) ts)
near_more center bounds ts k t within front last =
    subst (All P) (sym (take_more ts k t within))
    (All-append P (take k ts) (slice_index_or ts k t ∷ []) front (All-cons P (slice_index_or ts k t) [] last (All-nil P)))
  where
    P : NarrowSumTerm → Type 0
    P u = IsNear center bounds u.part

pub left_reads : (has : ℕ → ℤ → ℤ → Type 0) (r c : ℤ) (n : ℕ) (part : NarrowSumPart) → ReadsWithin has (part_formula part) r c n
    → ReadsWithin has (read_formula (near_read part)) r c n
left_reads has r c n (Read x) h = h
left_reads has r c n (Difference d) h = h.0.0

-- ---- lines

end_of : (a b c d : ℤ) → c ≡ b +ℤ d → a +ℤ c ≡ (a +ℤ b) +ℤ d
end_of a b c d e = omega (arith, ints)

centered_sum_end : (center : NarrowCenter) (taps : List NarrowTap) (tap : NarrowTap) (k : ℕ)
    → centered_tap_sum center (taps ++ tap ∷ []) k ≡ centered_tap_sum center taps k +ℤ centered_tap_at center tap k
centered_sum_end center [] tap k = omega (arith, ints)
centered_sum_end center (x ∷ taps) tap k =
    end_of (centered_tap_at center x k) (centered_tap_sum center taps k) _ (centered_tap_at center tap k) (centered_sum_end center taps tap k)

module _ (env : Valuation) (r c : ℤ) (n : ℕ) (own : NarrowSumRead) (bounds : NarrowSumBounds) (center : NarrowCenter) (terms : List NarrowSumTerm)
    (has : IsNearSum env r c n own bounds center terms) where
  -- the line of a term
  line_value : (tap : NarrowTap) (t : NarrowSumTerm) (k : ℕ) → k < n → tap.factor ≡ t.weight
      → at tap.line.now k ≡ sample_of env (near_read t.part) r (c +ℤ pos k) → IsNear own bounds t.part → Fits16 (gap env t.part r (c +ℤ pos k))
      → centered_tap_at center tap k ≡ term_value env t r (c +ℤ pos k)
  line_value tap t k l factor line near fits =
      let here : ℤ = c +ℤ pos k in
      (λ i. factor i *ℤ clamped (line i -ℤ has.line.line k l i) (has.line.low i) (has.line.high i))
      ∙ ap (λ (z : ℤ). t.weight *ℤ clamped z bounds.low bounds.high)
      (sym (near env r here).0 ∙ sym (int_wrap_fits w16 (gap env t.part r here) fits))
      ∙ ap (λ (z : ℤ). t.weight *ℤ z) (sym (near env r here).1)

  -- one more line, where as many lines have what the front of an order adds
  pub one_more_line : (lines : List NarrowTap) (order : List ℕ) (count : ℕ) (tap : NarrowTap) (t : NarrowSumTerm)
      (k : ℕ) → k < n → count < length lines → count < length order → slice_index_or order count 0 < length terms
      → t ≡ slice_index_or terms (slice_index_or order count 0) t → tap.factor ≡ t.weight
      → at tap.line.now k ≡ sample_of env (near_read t.part) r (c +ℤ pos k)
      → centered_tap_sum center (take count lines) k ≡ ordered_value env terms (take count order) r (c +ℤ pos k)
      → centered_tap_sum center (take (count + 1) (set lines count tap)) k ≡ ordered_value env terms (take (count + 1) order) r (c +ℤ pos k)
  one_more_line lines order count tap t k l space long within is factor line before =
      let here : ℤ = c +ℤ pos k in
      let i = slice_index_or order count 0 in
      let near : IsNear own bounds t.part = subst (λ (u : NarrowSumTerm). IsNear own bounds u.part) (sym is) (has.near.2 i t within) in
      let fits : Fits16 (gap env t.part r here) = subst (λ (u : NarrowSumTerm). Fits16 (gap env u.part r here)) (sym is) (has.gaps k l i t within) in
      let more = line_value tap t k l factor line near fits ∙ sym (numbered_is env r here terms i t within is) in
      ap (λ (xs : List NarrowTap). centered_tap_sum center xs k) (take_more_set lines count tap space)
      ∙ centered_sum_end center (take count lines) tap k
      ∙ (λ j. before j +ℤ more j)
      ∙ ap (λ (z : ℤ). ordered_value env terms (take count order) r here +ℤ z) (alone (numbered_value env terms i r here))
      ∙ sym (ordered_append env r here terms (take count order) (i ∷ []))
      ∙ ap (λ (xs : List ℕ). ordered_value env terms xs r here) (sym (take_more order count 0 long))
    where
      alone : (z : ℤ) → z ≡ z +ℤ pos 0
      alone z = omega (arith, ints)

-- the front of an order, and the numbers after it up to another place
pub next_values : (env : Valuation) (r c : ℤ) (terms : List NarrowSumTerm) (start end : ℕ) (xs : List ℕ) → start ≤ end
    → ordered_value env terms (take end xs) r c
    ≡ ordered_value env terms (take start xs) r c +ℤ ordered_value env terms (take (end - start) (drop start xs)) r c
next_values env r c terms start end xs le =
    ap (λ (ys : List ℕ). ordered_value env terms ys r c)
    (sym (take-append-drop start (take end xs)) ∙ (λ i. take-take start end xs le i ++ behind i))
    ∙ ordered_append env r c terms (take start xs) (take (end - start) (drop start xs))
  where
    behind : drop start (take end xs) ≡ take (end - start) (drop start xs)
    behind =
        let whole : end ≡ start + (end - start) = omega (arith, le) in
        ap (λ (n : ℕ). drop start (take n xs)) whole ∙ drop-take start (end - start) xs

pub chunk_added : (s a x b d : ℤ) → x ≡ b → d ≡ a +ℤ b → s +ℤ a +ℤ x ≡ s +ℤ d
chunk_added s a x b d e f = omega (arith, ints, e, f)

-- what is added to a rest, and a number
pub from_rest : (x rest h z m n : ℤ) → x ≡ int_wrap w16 (rest +ℤ h) → h ≡ z → m ≡ n → int_wrap w16 (x +ℤ (pos 0 +ℤ m)) ≡ int_wrap w16 (rest +ℤ z +ℤ n)
from_rest x rest h z m n e f g =
    ap (λ (y : ℤ). int_wrap w16 (y +ℤ (pos 0 +ℤ m))) e
    ∙ int_wrap-add_left w16 (rest +ℤ h) (pos 0 +ℤ m)
    ∙ ap (int_wrap w16) (together (rest +ℤ h) m)
    ∙ (λ i. int_wrap w16 (rest +ℤ f i +ℤ g i))
  where
    together : (a b : ℤ) → a +ℤ (pos 0 +ℤ b) ≡ a +ℤ b
    together a b = omega (arith, ints)
