-- The values of sums that are gathered from formulas, modulo 2 ^ 32.
use Rattle.std.proofs.Common.{arith, ℕ, zero, suc, ℤ, ◌≡◌, ◌≤◌, ◌-◌, pos, negsuc, neg_ℤ, ◌+ℤ◌, ◌-ℤ◌, ◌*ℤ◌, ◌≤ℤ◌, w16, w32, to_z, of_z, FitsSigned, List, [], ◌∷◌, ◌++◌, length, take, drop, ap, sym, refl, ◌∙◌}
use Rattle.std.proofs.Math.IntN.{*ℤ_comm, neg_ℤ-neg_ℤ, negsuc-*ℤ-pos, pos-*ℤ-negsuc, zero-*ℤ}
use Rattle.std.proofs.lemmas.Int.{ints, to_z-of_z, int_wrap-add_left, int_wrap-add_right, int_wrap-add_same, int_wrap-mul_left}
use Rattle.std.proofs.lemmas.List.{take_all, length-drop}
use Rattle.domains.specs.Arithmetic.{wrapped}
use Rattle.stencil_kernels.proofs.ProductLaws.{over_sum, other_order}
use Rattle.job.specs.Values.{Valuation}
use Rattle.std.specs.Prelude.{slice_index_or}
use Rattle.linear_rows.specs.declared.linear_taps.LinearTap.{LinearTap}
use Rattle.linear_rows.specs.inside.LinearSums.{tap_value, taps_value}

-- ---- products modulo 2 ^ 32

times_wrapped : (f z : ℤ) → wrapped (f *ℤ wrapped z) ≡ wrapped (f *ℤ z)
times_wrapped f z = ap wrapped (*ℤ_comm f (wrapped z)) ∙ int_wrap-mul_left w32 z f ∙ ap wrapped (*ℤ_comm z f)

-- a value that is multiplied and added may be wrapped first
pub product_wrapped : (s f z : ℤ) → wrapped (s +ℤ f *ℤ wrapped z) ≡ wrapped (s +ℤ f *ℤ z)
product_wrapped s f z =
    sym (int_wrap-add_right w32 s (f *ℤ wrapped z)) ∙ ap (λ (y : ℤ). wrapped (s +ℤ y)) (times_wrapped f z) ∙ int_wrap-add_right w32 s (f *ℤ z)

negated : (f y : ℤ) → neg_ℤ (f *ℤ y) ≡ neg_ℤ f *ℤ y
negated (pos zero) y = ap neg_ℤ (zero-*ℤ y) ∙ sym (zero-*ℤ y)
negated (pos (suc n)) (pos m) = sym (negsuc-*ℤ-pos n m)
negated (pos (suc n)) (negsuc m) = ap neg_ℤ (pos-*ℤ-negsuc (suc n) m) ∙ neg_ℤ-neg_ℤ _
negated (negsuc n) (pos m) = ap neg_ℤ (negsuc-*ℤ-pos n m) ∙ neg_ℤ-neg_ℤ _
negated (negsuc n) (negsuc m) = sym (pos-*ℤ-negsuc (suc n) m)

-- the sign of a product is that of either factor
sign_moved : (f y : ℤ) → neg_ℤ f *ℤ y ≡ f *ℤ neg_ℤ y
sign_moved f y = sym (negated f y) ∙ ap neg_ℤ (*ℤ_comm f y) ∙ negated y f ∙ *ℤ_comm (neg_ℤ y) f

-- the negation of a factor
pub negated_factor : (f : ℤ) → FitsSigned w16 f → negsuc 32766 ≤ℤ f → to_z w16 (of_z w16 (pos 0 -ℤ to_z w16 (of_z w16 f))) ≡ neg_ℤ f
negated_factor f fits least =
    ap (λ (z : ℤ). to_z w16 (of_z w16 (pos 0 -ℤ z))) (to_z-of_z w16 f fits)
    ∙ to_z-of_z w16 (pos 0 -ℤ f) (omega (arith, ints, fits, least))
    ∙ from_zero f
  where
    from_zero : (z : ℤ) → pos 0 -ℤ z ≡ neg_ℤ z
    from_zero z = omega (arith, ints)

-- ---- what each formula adds

-- a number
pub number_more : (x number taps f n : ℤ) → x ≡ wrapped (number +ℤ wrapped (f *ℤ n)) → wrapped (x +ℤ taps) ≡ wrapped (number +ℤ taps +ℤ f *ℤ n)
number_more x number taps f n e =
    ap (λ (z : ℤ). wrapped (z +ℤ taps)) e
    ∙ int_wrap-add_left w32 (number +ℤ wrapped (f *ℤ n)) taps
    ∙ ap wrapped (turned number (wrapped (f *ℤ n)) taps)
    ∙ int_wrap-add_right w32 (number +ℤ taps) (f *ℤ n)
  where
    turned : (a b c : ℤ) → a +ℤ b +ℤ c ≡ a +ℤ c +ℤ b
    turned a b c = omega (arith, ints)

-- the negation of a value
pub negation_more : (s f v : ℤ) → wrapped (s +ℤ neg_ℤ f *ℤ v) ≡ wrapped (s +ℤ f *ℤ wrapped (neg_ℤ v))
negation_more s f v = ap (λ (z : ℤ). wrapped (s +ℤ z)) (sign_moved f v) ∙ sym (product_wrapped s f (neg_ℤ v))

-- the sum of two
pub sum_more : (r s t f v w : ℤ) → wrapped s ≡ wrapped (r +ℤ f *ℤ v) → wrapped t ≡ wrapped (s +ℤ f *ℤ w)
    → wrapped t ≡ wrapped (r +ℤ f *ℤ wrapped (v +ℤ w))
sum_more r s t f v w d e =
    e ∙ int_wrap-add_same w32 s (r +ℤ f *ℤ v) (f *ℤ w) d
    ∙ ap wrapped (turned r (f *ℤ v) (f *ℤ w) (f *ℤ (v +ℤ w)) (over_sum f v w))
    ∙ sym (product_wrapped r f (v +ℤ w))
  where
    turned : (a b c x : ℤ) → x ≡ b +ℤ c → a +ℤ b +ℤ c ≡ a +ℤ x
    turned a b c x h = omega (arith, ints, h)

-- their difference
pub difference_more : (r s t f v w : ℤ) → wrapped s ≡ wrapped (r +ℤ f *ℤ v) → wrapped t ≡ wrapped (s +ℤ neg_ℤ f *ℤ w)
    → wrapped t ≡ wrapped (r +ℤ f *ℤ wrapped (v -ℤ w))
difference_more r s t f v w d e =
    e ∙ int_wrap-add_same w32 s (r +ℤ f *ℤ v) (neg_ℤ f *ℤ w) d
    ∙ ap (λ (z : ℤ). wrapped (r +ℤ f *ℤ v +ℤ z)) (sign_moved f w)
    ∙ ap wrapped (turned r (f *ℤ v) (f *ℤ neg_ℤ w) (f *ℤ (v +ℤ neg_ℤ w)) (over_sum f v (neg_ℤ w)))
    ∙ ap (λ (z : ℤ). wrapped (r +ℤ f *ℤ z)) (sym (to_sum v w))
    ∙ sym (product_wrapped r f (v -ℤ w))
  where
    turned : (a b c x : ℤ) → x ≡ b +ℤ c → a +ℤ b +ℤ c ≡ a +ℤ x
    turned a b c x h = omega (arith, ints, h)

    to_sum : (x z : ℤ) → x -ℤ z ≡ x +ℤ neg_ℤ z
    to_sum x z = omega (arith, ints)

-- a product with a number on the left, or on the right
pub left_product_more : (s f n v : ℤ) → wrapped (s +ℤ f *ℤ n *ℤ v) ≡ wrapped (s +ℤ f *ℤ wrapped (n *ℤ v))
left_product_more s f n v =
    ap (λ (z : ℤ). wrapped (s +ℤ z)) (ap (λ (z : ℤ). z *ℤ v) (*ℤ_comm f n) ∙ sym (other_order f n v)) ∙ sym (product_wrapped s f (n *ℤ v))

pub right_product_more : (s f n v : ℤ) → wrapped (s +ℤ f *ℤ n *ℤ v) ≡ wrapped (s +ℤ f *ℤ wrapped (v *ℤ n))
right_product_more s f n v =
    left_product_more s f n v ∙ ap (λ (z : ℤ). wrapped (s +ℤ f *ℤ wrapped z)) (*ℤ_comm n v)

-- ---- lists of taps

module _ (env : Valuation) (r c : ℤ) where
  abbrev total : List LinearTap → ℤ
  total ts = taps_value env ts r c

  pub values_end : (ts : List LinearTap) (t : LinearTap) → total (ts ++ t ∷ []) ≡ total ts +ℤ tap_value env t r c
  values_end [] t = turned (tap_value env t r c)
    where
      turned : (z : ℤ) → z +ℤ pos 0 ≡ pos 0 +ℤ z
      turned z = omega (arith, ints)
  values_end (x ∷ ts) t = end_of (tap_value env x r c) (total ts) (total (ts ++ t ∷ [])) (tap_value env t r c) (values_end ts t)
    where
      end_of : (a b c d : ℤ) → c ≡ b +ℤ d → a +ℤ c ≡ a +ℤ b +ℤ d
      end_of a b c d e = omega (arith, ints, e)

  -- a read
  pub read_more : (number f v : ℤ) (ts : List LinearTap) (t : LinearTap) → tap_value env t r c ≡ f *ℤ v
      → wrapped (number +ℤ total (ts ++ t ∷ [])) ≡ wrapped (number +ℤ total ts +ℤ f *ℤ v)
  read_more number f v ts t e = ap wrapped (turned number (total ts) (total (ts ++ t ∷ [])) (tap_value env t r c) (f *ℤ v) (values_end ts t) e)
    where
      turned : (a b c d x : ℤ) → c ≡ b +ℤ d → d ≡ x → a +ℤ c ≡ a +ℤ b +ℤ x
      turned a b c d x g h = omega (arith, ints, g, h)

  -- the first taps, and then the others
  pub values_split : (n : ℕ) (ts : List LinearTap) → total (take n ts) +ℤ total (drop n ts) ≡ total ts
  values_split zero ts = turned (total ts)
    where
      turned : (z : ℤ) → pos 0 +ℤ z ≡ z
      turned z = omega (arith, ints)
  values_split (suc n) [] = refl
  values_split (suc n) (t ∷ ts) = grouped (tap_value env t r c) (total (take n ts)) (total (drop n ts)) (total ts) (values_split n ts)
    where
      grouped : (a b c d : ℤ) → b +ℤ c ≡ d → a +ℤ b +ℤ c ≡ a +ℤ d
      grouped a b c d e = omega (arith, ints, e)

  split_more : (s : ℤ) (n : ℕ) (ts : List LinearTap) → s +ℤ total (take n ts) +ℤ total (drop n ts) ≡ s +ℤ total ts
  split_more s n ts = grouped s (total (take n ts)) (total (drop n ts)) (total ts) (values_split n ts)
    where
      grouped : (a b c d : ℤ) → b +ℤ c ≡ d → a +ℤ b +ℤ c ≡ a +ℤ d
      grouped a b c d e = omega (arith, ints, e)

  -- the taps behind the first n, as a slice has them
  pub slice_more : (s : ℤ) (n : ℕ) (ts : List LinearTap) → s +ℤ total (take n ts) +ℤ total (take (length ts - n) (drop n ts)) ≡ s +ℤ total ts
  slice_more s n ts =
      ap (λ (xs : List LinearTap). s +ℤ total (take n ts) +ℤ total xs)
      (take_all (length ts - n) (drop n ts) (omega (arith, length-drop n ts)))
      ∙ split_more s n ts

  -- a number, and the first taps by their numbers
  abbrev value : LinearTap → ℤ
  value t = tap_value env t r c

  pub first_one : (ts : List LinearTap) (a : LinearTap) (s x : ℤ) → 1 ≤ length ts → a ≡ slice_index_or ts 0 a → x ≡ value a
      → s +ℤ x ≡ s +ℤ total (take 1 ts)
  first_one [] a s x l e h = absurd (omega (arith, l))
  first_one (t ∷ ts) a s x l e h = summed s x (value t) (h ∙ ap value e)
    where
      summed : (s x a : ℤ) → x ≡ a → s +ℤ x ≡ s +ℤ (a +ℤ pos 0)
      summed s x a e = omega (arith, ints, e)

  pub first_two : (ts : List LinearTap) (a b : LinearTap) (s x y : ℤ) → 2 ≤ length ts → a ≡ slice_index_or ts 0 a → b ≡ slice_index_or ts 1 b
      → x ≡ value a → y ≡ value b → s +ℤ (x +ℤ y) ≡ s +ℤ total (take 2 ts)
  first_two [] a b s x y l d e g h = absurd (omega (arith, l))
  first_two (t ∷ []) a b s x y l d e g h = absurd (omega (arith, l))
  first_two (t ∷ u ∷ ts) a b s x y l d e g h = summed s x y (value t) (value u) (g ∙ ap value d) (h ∙ ap value e)
    where
      summed : (s x y a b : ℤ) → x ≡ a → y ≡ b → s +ℤ (x +ℤ y) ≡ s +ℤ (a +ℤ (b +ℤ pos 0))
      summed s x y a b e f = omega (arith, ints, e, f)

  pub first_three : (ts : List LinearTap) (a b d : LinearTap) (s x y z : ℤ) → 3 ≤ length ts
      → a ≡ slice_index_or ts 0 a → b ≡ slice_index_or ts 1 b → d ≡ slice_index_or ts 2 d
      → x ≡ value a → y ≡ value b → z ≡ value d → s +ℤ (x +ℤ (y +ℤ z)) ≡ s +ℤ total (take 3 ts)
  first_three [] a b d s x y z l ea eb ed fa fb fd = absurd (omega (arith, l))
  first_three (t ∷ []) a b d s x y z l ea eb ed fa fb fd = absurd (omega (arith, l))
  first_three (t ∷ u ∷ []) a b d s x y z l ea eb ed fa fb fd = absurd (omega (arith, l))
  first_three (t ∷ u ∷ v ∷ ts) a b d s x y z l ea eb ed fa fb fd =
      summed s x y z (value t) (value u) (value v) (fa ∙ ap value ea) (fb ∙ ap value eb) (fd ∙ ap value ed)
    where
      summed : (s x y z a b d : ℤ) → x ≡ a → y ≡ b → z ≡ d → s +ℤ (x +ℤ (y +ℤ z)) ≡ s +ℤ (a +ℤ (b +ℤ (d +ℤ pos 0)))
      summed s x y z a b d e f g = omega (arith, ints, e, f, g)

  pub first_four : (ts : List LinearTap) (a b d e : LinearTap) (s x y z w : ℤ) → 4 ≤ length ts
      → a ≡ slice_index_or ts 0 a → b ≡ slice_index_or ts 1 b → d ≡ slice_index_or ts 2 d → e ≡ slice_index_or ts 3 e
      → x ≡ value a → y ≡ value b → z ≡ value d → w ≡ value e → s +ℤ (x +ℤ (y +ℤ (z +ℤ w))) ≡ s +ℤ total (take 4 ts)
  first_four [] a b d e s x y z w l ea eb ed ee fa fb fd fe = absurd (omega (arith, l))
  first_four (t ∷ ts) a b d e s x y z w l ea eb ed ee fa fb fd fe =
      summed s x (y +ℤ (z +ℤ w)) (value t) (total (take 3 ts)) (fa ∙ ap value ea)
      (first_three ts b d e (pos 0) y z w (omega (arith, l)) eb ed ee fb fd fe)
    where
      summed : (s x y a b : ℤ) → x ≡ a → pos 0 +ℤ y ≡ pos 0 +ℤ b → s +ℤ (x +ℤ y) ≡ s +ℤ (a +ℤ b)
      summed s x y a b e f = omega (arith, ints, e, f)
