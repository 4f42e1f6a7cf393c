-- Sums of clamped differences from a center, as they are computed.
use Rattle.std.proofs.Common.{arith, ℕ, suc, ◌+◌, ◌*◌, ℤ, pos, neg_ℤ, ◌≡◌, negsuc, ◌≤◌, ◌<◌, ◌≤ℤ◌, ◌+ℤ◌, ◌-ℤ◌, ◌*ℤ◌, List, [], ◌∷◌, ◌++◌, get_or, length, take, w16, FitsSigned, ap, sym, refl, ◌∙◌}
use Rattle.std.specs.Prelude.{slice_index_or}
use Rattle.std.proofs.Math.IntN.{+ℤ_assoc, *ℤ_comm, *ℤ-negsuc, zero-*ℤ}
use borrow.Author.Differences.{sum_is_lem}
use Rattle.std.specs.Int.{int_wrap}
use Rattle.std.proofs.lemmas.Int.{ints, clamps, int_wrap-add_left, int_wrap-mul_left}
use Rattle.domains.specs.Arithmetic.{clamped}
use Rattle.row_loops.specs.Rows.{at}
use Rattle.narrow_kernels.specs.declared.narrow_taps.NarrowTap.{NarrowTap}
use Rattle.narrow_kernels.specs.declared.narrow_centers.NarrowCenter.{NarrowCenter}
use Rattle.narrow_kernels.specs.NarrowCenters.{centered_tap_at, centered_tap_sum}
use Rattle.std.proofs.lemmas.List.{take_more, get_or_default}
use Rattle.narrow_kernels.proofs.NarrowWraps.{wrapped_left}
use Rattle.narrow_kernels.proofs.NarrowSums.{sum_of_four, same_sum}
use Rattle.narrow_kernels.specs.NarrowNearTaps.{near_tap_at, near_tap_sum, near_line_at, factor_sum}

-- ---- numbers between bounds that are saturated at 16 bits

pub nearest_number : (a c low high lo hi : ℤ) → FitsSigned w16 a → FitsSigned w16 c → low ≤ℤ pos 0 → pos 0 ≤ℤ high
    → lo ≡ clamped (c +ℤ low) (negsuc 32767) (pos 32767) → hi ≡ clamped (c +ℤ high) (negsuc 32767) (pos 32767)
    → clamped a lo hi ≡ c +ℤ clamped (a -ℤ c) low high
nearest_number a c low high lo hi fa fc l h e f = omega (arith, ints, clamps, e, f)

-- ---- products of sums

over_natural : (j k : ℤ) (m : ℕ) → (j +ℤ k) *ℤ pos m ≡ j *ℤ pos m +ℤ k *ℤ pos m
over_natural j k m =
    let sum = ap (λ (x : ℕ). x * m) (sum_is_lem j k) in
    omega (arith, ints, sum)

sum_times : (j k m : ℤ) → (j +ℤ k) *ℤ m ≡ j *ℤ m +ℤ k *ℤ m
sum_times j k (pos n) = over_natural j k n
sum_times j k (negsuc n) =
    *ℤ-negsuc (j +ℤ k) n ∙ ap neg_ℤ (over_natural j k (suc n)) ∙ negated (j *ℤ pos (suc n)) (k *ℤ pos (suc n))
    ∙ (λ i. sym (*ℤ-negsuc j n) i +ℤ sym (*ℤ-negsuc k n) i)
  where
    negated : (a b : ℤ) → neg_ℤ (a +ℤ b) ≡ neg_ℤ a +ℤ neg_ℤ b
    negated a b = omega (arith, ints)

times_sum : (m j k : ℤ) → m *ℤ (j +ℤ k) ≡ m *ℤ j +ℤ m *ℤ k
times_sum m j k = *ℤ_comm m (j +ℤ k) ∙ sum_times j k m ∙ (λ i. *ℤ_comm j m i +ℤ *ℤ_comm k m i)

-- ---- the taps and the center

joined : (n s x y z w v : ℤ) → n ≡ s +ℤ y → x ≡ z +ℤ w → v ≡ z +ℤ y → x +ℤ n ≡ (w +ℤ s) +ℤ v
joined n s x y z w v e f g = omega (arith, ints, e, f, g)

-- what the taps are, but for the center times their factors
near_taps_are : (center : NarrowCenter) (taps : List NarrowTap) (k : ℕ)
    → near_tap_sum center taps k ≡ centered_tap_sum center taps k +ℤ factor_sum taps *ℤ at center.line.now k
near_taps_are center [] k = sym (ap (λ (z : ℤ). pos 0 +ℤ z) (zero-*ℤ (at center.line.now k)))
near_taps_are center (tap ∷ taps) k =
    let own = at center.line.now k in
    joined (near_tap_sum center taps k) (centered_tap_sum center taps k) (near_tap_at center tap k) (factor_sum taps *ℤ own) (tap.factor *ℤ own)
    (centered_tap_at center tap k) ((tap.factor +ℤ factor_sum taps) *ℤ own) (near_taps_are center taps k) (times_sum tap.factor own _)
    (sum_times tap.factor (factor_sum taps) own)

without_own : (s t f c : ℤ) → neg_ℤ f *ℤ c +ℤ (s +ℤ (t +ℤ f *ℤ c)) ≡ s +ℤ t
without_own s t f c = opposite (neg_ℤ f *ℤ c) (f *ℤ c) (sym (sum_times (neg_ℤ f) f c) ∙ ap (λ (z : ℤ). z *ℤ c) (none f) ∙ zero-*ℤ c)
  where
    none : (f : ℤ) → neg_ℤ f +ℤ f ≡ pos 0
    none f = omega (arith, ints)

    opposite : (a b : ℤ) → a +ℤ b ≡ pos 0 → a +ℤ (s +ℤ (t +ℤ b)) ≡ s +ℤ t
    opposite a b e = omega (arith, ints, e)

same_own : (own f c rest : ℤ) → own ≡ int_wrap w16 (neg_ℤ f) → int_wrap w16 (own *ℤ c +ℤ rest) ≡ int_wrap w16 (neg_ℤ f *ℤ c +ℤ rest)
same_own own f c rest e =
    sym (int_wrap-add_left w16 (own *ℤ c) rest)
    ∙ ap (λ (z : ℤ). int_wrap w16 (z +ℤ rest)) (ap (λ (z : ℤ). int_wrap w16 (z *ℤ c)) e ∙ int_wrap-mul_left w16 (neg_ℤ f) c)
    ∙ int_wrap-add_left w16 (neg_ℤ f *ℤ c) rest

-- with the center times their factors, taken away
centered_taps_are : (center : NarrowCenter) (taps : List NarrowTap) (k : ℕ) (own s : ℤ) → own ≡ int_wrap w16 (neg_ℤ (factor_sum taps))
    → int_wrap w16 (s +ℤ (own *ℤ at center.line.now k +ℤ near_tap_sum center taps k)) ≡ int_wrap w16 (s +ℤ centered_tap_sum center taps k)
centered_taps_are center taps k own s e =
    ap (int_wrap w16) (moved s (own *ℤ at center.line.now k) (near_tap_sum center taps k))
    ∙ same_own own (factor_sum taps) (at center.line.now k) (s +ℤ near_tap_sum center taps k) e
    ∙ ap (λ (z : ℤ). int_wrap w16 (neg_ℤ (factor_sum taps) *ℤ at center.line.now k +ℤ (s +ℤ z))) (near_taps_are center taps k)
    ∙ ap (int_wrap w16) (without_own s (centered_tap_sum center taps k) (factor_sum taps) (at center.line.now k))
  where
    moved : (s a b : ℤ) → s +ℤ (a +ℤ b) ≡ a +ℤ (s +ℤ b)
    moved s a b = omega (arith, ints)

-- and what a row has before
pub centered_row_is : (center : NarrowCenter) (taps : List NarrowTap) (k : ℕ) (own s x : ℤ) → x ≡ int_wrap w16 s
    → own ≡ int_wrap w16 (neg_ℤ (factor_sum taps))
    → int_wrap w16 ((x +ℤ own *ℤ at center.line.now k) +ℤ near_tap_sum center taps k) ≡ int_wrap w16 (s +ℤ centered_tap_sum center taps k)
centered_row_is center taps k own s x h e =
    ap (int_wrap w16) (+ℤ_assoc x _ _) ∙ wrapped_left x s _ h ∙ centered_taps_are center taps k own s e

-- ---- taps of one factor

-- the taps of two lists
pub near_taps_joined : (center : NarrowCenter) (xs ys : List NarrowTap) (k : ℕ)
    → near_tap_sum center xs k +ℤ near_tap_sum center ys k ≡ near_tap_sum center (xs ++ ys) k
near_taps_joined center [] ys k = nothing_first (near_tap_sum center ys k)
  where
    nothing_first : (z : ℤ) → pos 0 +ℤ z ≡ z
    nothing_first z = omega (arith, ints)
near_taps_joined center (x ∷ xs) ys k =
    +ℤ_assoc (near_tap_at center x k) (near_tap_sum center xs k) (near_tap_sum center ys k)
    ∙ ap (λ (z : ℤ). near_tap_at center x k +ℤ z) (near_taps_joined center xs ys k)

-- four products of one factor
four_times : (f a b c d : ℤ) → f *ℤ ((a +ℤ b) +ℤ (c +ℤ d)) ≡ f *ℤ a +ℤ (f *ℤ b +ℤ (f *ℤ c +ℤ f *ℤ d))
four_times f a b c d =
    times_sum f (a +ℤ b) (c +ℤ d)
    ∙ (λ i. times_sum f a b i +ℤ times_sum f c d i)
    ∙ +ℤ_assoc (f *ℤ a) (f *ℤ b) (f *ℤ c +ℤ f *ℤ d)

-- four taps of one factor
pub quad_of_taps : (center : NarrowCenter) (taps : List NarrowTap) (k : ℕ) (d : NarrowTap) → 4 ≤ length taps → length taps < 5
    → (slice_index_or taps 0 d).factor ≡ (slice_index_or taps 1 d).factor
    → (slice_index_or taps 0 d).factor ≡ (slice_index_or taps 2 d).factor
    → (slice_index_or taps 0 d).factor ≡ (slice_index_or taps 3 d).factor
    → (slice_index_or taps 0 d).factor
    *ℤ ((near_line_at center (slice_index_or taps 0 d).line.now k +ℤ near_line_at center (slice_index_or taps 1 d).line.now k)
    +ℤ (near_line_at center (slice_index_or taps 2 d).line.now k +ℤ near_line_at center (slice_index_or taps 3 d).line.now k))
    ≡ near_tap_sum center taps k
quad_of_taps center taps k d some few one two three =
    let line : ℕ → ℤ = λ n. near_line_at center (slice_index_or taps n d).line.now k in
    four_times (slice_index_or taps 0 d).factor (line 0) (line 1) (line 2) (line 3)
    ∙ (λ i. (slice_index_or taps 0 d).factor *ℤ line 0 +ℤ (one i *ℤ line 1 +ℤ (two i *ℤ line 2 +ℤ three i *ℤ line 3)))
    ∙ sym (sum_of_four near taps _ _ _ _ some few (there 0 (omega arith)) (there 1 (omega arith)) (there 2 (omega arith)) (there 3 (omega arith)))
    ∙ same_sum near (λ taps. near_tap_sum center taps k) refl (λ x xs. refl) taps
  where
    near : NarrowTap → ℤ
    near tap = near_tap_at center tap k

    there : (n : ℕ) → n < length taps → slice_index_or taps n d ≡ get_or taps n (slice_index_or taps n d)
    there n l = get_or_default taps n d (slice_index_or taps n d) l

-- ---- the factors, one after another

factors_end : (taps : List NarrowTap) (tap : NarrowTap) → factor_sum (taps ++ tap ∷ []) ≡ factor_sum taps +ℤ tap.factor
factors_end [] tap = omega (arith, ints)
factors_end (x ∷ taps) tap = let e = factors_end taps tap in omega (arith, ints, e)

pub one_more_factor : (taps : List NarrowTap) (i : ℕ) (d : NarrowTap) (sum : ℤ) → i < length taps
    → sum ≡ int_wrap w16 (neg_ℤ (factor_sum (take i taps)))
    → int_wrap w16 (sum -ℤ (get_or taps i d).factor) ≡ int_wrap w16 (neg_ℤ (factor_sum (take (i + 1) taps)))
one_more_factor taps i d sum l e =
    ap (int_wrap w16) (less sum (get_or taps i d).factor)
    ∙ wrapped_left sum (neg_ℤ (factor_sum (take i taps))) (neg_ℤ (get_or taps i d).factor) e
    ∙ ap (int_wrap w16) (negated (factor_sum (take i taps)) (get_or taps i d).factor)
    ∙ ap (λ (z : ℤ). int_wrap w16 (neg_ℤ z)) (sym (ap factor_sum (take_more taps i d l) ∙ factors_end (take i taps) (get_or taps i d)))
  where
    less : (a b : ℤ) → a -ℤ b ≡ a +ℤ neg_ℤ b
    less a b = omega (arith, ints)

    negated : (a b : ℤ) → neg_ℤ a +ℤ neg_ℤ b ≡ neg_ℤ (a +ℤ b)
    negated a b = omega (arith, ints)
