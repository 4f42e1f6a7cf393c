-- Sums that are gathered addend by addend, wrapped at 16 bits.
use Rattle.std.proofs.Common.{arith, ℕ, zero, suc, ℤ, ◌≡◌, ◌+◌, ◌*◌, negsuc, neg_ℤ, ◌^◌, ◌<◌, pos, ◌+ℤ◌, ◌-ℤ◌, ◌*ℤ◌, w16, w32, FitsSigned, sym, ap, ◌∙◌, subst}
use Rattle.std.proofs.Common.{Bool, true, false, List, [], ◌∷◌, ◌++◌, length, take, set, refl}
use Rattle.std.specs.Int.{int_wrap}
use Rattle.std.proofs.Math.IntN.{+ℤ_idr, *ℤ-zero, zero-*ℤ, *ℤ_comm, *ℤ-one}
use Rattle.std.proofs.lemmas.Int.{ints, int_wrap_fits, int_wrap-add_same, int_wrap-add_right, int_wrap-mul_right, int_wrap-mul_left}
use Rattle.std.proofs.lemmas.List.{take_more_set}
use Rattle.std.proofs.lemmas.List.Elements.{All-append, All-cons, All-nil}
use Rattle.domains.specs.Arithmetic.{wrapped, floor_div}
use Rattle.domains.proofs.Wrapping.{wrapped_is}
use Rattle.row_loops.specs.Rows.{EachPlace, at}
use Rattle.narrow_kernels.specs.declared.narrow_taps.NarrowTap.{NarrowTap}
use Rattle.narrow_kernels.specs.declared.narrow_differences.NarrowClampedDifference.{NarrowClampedDifference}
use Rattle.narrow_kernels.specs.NarrowTaps.{tap_at, tap_sum, HaveTapLines}
use Rattle.narrow_kernels.specs.NarrowDifferences.{narrow_difference_at, narrow_difference_sum, HaveDifferenceLines}
use Rattle.operators.specs.Values.{binary_value}
use Rattle.operators.specs.declared.operator.BinaryOp.{BinaryOp}
use Rattle.operators.specs.declared.operator.BinaryOp.TheVariants.{Add, Sub, Mul, Min, Max}
use Rattle.std.proofs.lemmas.Bool.{false≢true}
use Rattle.narrow_sums.specs.declared.narrow_sum.NarrowSum.{NarrowSum}
use Rattle.narrow_sums.specs.NarrowSums.{Same16, adds, signed, IsRest, GivesSum, HasSpace, HasAddends, waiting_at}

-- ---- numbers that are the same once they are wrapped

pub same_add : (a b c d : ℤ) → Same16 a b → Same16 c d → Same16 (a +ℤ c) (b +ℤ d)
same_add a b c d e f =
    int_wrap-add_same w16 a b c e
    ∙ sym (int_wrap-add_right w16 b c)
    ∙ ap (λ (z : ℤ). int_wrap w16 (b +ℤ z)) f
    ∙ int_wrap-add_right w16 b d

pub same_less : (a b c : ℤ) → Same16 a b → Same16 (a -ℤ c) (b -ℤ c)
same_less a b c e =
    let to : (x : ℤ) → x -ℤ c ≡ x +ℤ (pos 0 -ℤ c) = λ x. omega (arith, ints) in
    ap (int_wrap w16) (to a) ∙ int_wrap-add_same w16 a b (pos 0 -ℤ c) e ∙ sym (ap (int_wrap w16) (to b))

pub nothing_wrapped : int_wrap w16 (pos 0) ≡ pos 0
nothing_wrapped = int_wrap_fits w16 (pos 0) (omega (arith, ints))

no_high_bits : int_wrap w16 (pos (2 ^ 32)) ≡ pos 0
unfolding int_wrap
no_high_bits = refl

high_bits : (q : ℤ) → int_wrap w16 (q *ℤ pos (2 ^ 32)) ≡ pos 0
high_bits q =
    sym (int_wrap-mul_right w16 q (pos (2 ^ 32)))
    ∙ ap (λ (z : ℤ). int_wrap w16 (q *ℤ z)) no_high_bits
    ∙ ap (int_wrap w16) (*ℤ-zero q)
    ∙ nothing_wrapped

-- to wrap at 32 bits before changes nothing
pub same_wrapped : (z : ℤ) → Same16 (wrapped z) z
same_wrapped z =
    let is = (wrapped_is w32 z).congruent in
    sym (ap (int_wrap w16) is.1
    ∙ sym (int_wrap-add_right w16 (wrapped z) (is.0 *ℤ pos (2 ^ 32)))
    ∙ ap (λ (m : ℤ). int_wrap w16 (wrapped z +ℤ m)) (high_bits is.0)
    ∙ ap (int_wrap w16) (+ℤ_idr (wrapped z)))

pub same_times : (a b c : ℤ) → Same16 a b → Same16 (a *ℤ c) (b *ℤ c)
same_times a b c e =
    sym (int_wrap-mul_left w16 a c) ∙ ap (λ (z : ℤ). int_wrap w16 (z *ℤ c)) e ∙ int_wrap-mul_left w16 b c

neg_neg : (n : ℕ) → neg_ℤ (neg_ℤ (pos n)) ≡ pos n
neg_neg n = omega (arith, ints)

neg_product : (n v : ℤ) → neg_ℤ n *ℤ v ≡ neg_ℤ (n *ℤ v)
neg_product (pos zero) v = zero-*ℤ v ∙ sym (ap neg_ℤ (zero-*ℤ v))
neg_product (pos (suc m)) (pos n) = refl
neg_product (pos (suc m)) (negsuc n) = sym (neg_neg (suc m * suc n))
neg_product (negsuc m) (pos n) = sym (neg_neg (suc m * n))
neg_product (negsuc m) (negsuc n) = refl

-- ---- formulas that are added or subtracted

-- products with a factor that has the sign of the operator
pub signed_sum : (op : BinaryOp) (f w n v : ℤ) → adds op ≡ true → Same16 w (signed op n) → Same16 (f +ℤ w *ℤ v) (binary_value op f (n *ℤ v))
signed_sum Add f w n v h e = same_add f f (w *ℤ v) (n *ℤ v) refl (same_times w n v e) ∙ sym (same_wrapped (f +ℤ n *ℤ v))
signed_sum Sub f w n v h e =
    same_add f f (w *ℤ v) (neg_ℤ n *ℤ v) refl (same_times w (neg_ℤ n) v e)
    ∙ ap (λ (z : ℤ). int_wrap w16 (f +ℤ z)) (neg_product n v)
    ∙ ap (int_wrap w16) (omega (arith, ints))
    ∙ sym (same_wrapped (f -ℤ n *ℤ v))
signed_sum Mul f w n v h e = absurd (false≢true h)
signed_sum Min f w n v h e = absurd (false≢true h)
signed_sum Max f w n v h e = absurd (false≢true h)

same_from : (f a b : ℤ) → Same16 a b → Same16 (f -ℤ a) (f -ℤ b)
same_from f a b e =
    let to : (x : ℤ) → f -ℤ x ≡ f +ℤ (negsuc 0 *ℤ x) = λ x. omega (arith, ints) in
    ap (int_wrap w16) (to a)
    ∙ same_add f f (negsuc 0 *ℤ a) (negsuc 0 *ℤ b) refl
    (sym (int_wrap-mul_right w16 (negsuc 0) a) ∙ ap (λ (z : ℤ). int_wrap w16 (negsuc 0 *ℤ z)) e ∙ int_wrap-mul_right w16 (negsuc 0) b)
    ∙ sym (ap (int_wrap w16) (to b))

pub binary_same : (op : BinaryOp) (f a b : ℤ) → adds op ≡ true → Same16 a b → Same16 (binary_value op f a) (binary_value op f b)
binary_same Add f a b h e = same_wrapped (f +ℤ a) ∙ same_add f f a b refl e ∙ sym (same_wrapped (f +ℤ b))
binary_same Sub f a b h e = same_wrapped (f -ℤ a) ∙ same_from f a b e ∙ sym (same_wrapped (f -ℤ b))
binary_same Mul f a b h e = absurd (false≢true h)
binary_same Min f a b h e = absurd (false≢true h)
binary_same Max f a b h e = absurd (false≢true h)

times_one : (x : ℤ) → x *ℤ pos 1 ≡ x
unfolding lib.IntN.one
times_one x = *ℤ-one x

pub once_added : (x : ℤ) → pos 1 *ℤ x +ℤ pos 0 ≡ x
once_added x = +ℤ_idr (pos 1 *ℤ x) ∙ *ℤ_comm (pos 1) x ∙ times_one x

-- a formula, once
pub once_joined : (op : BinaryOp) (f w v : ℤ) → adds op ≡ true → Same16 w (signed op (pos 1)) → Same16 (f +ℤ w *ℤ v) (binary_value op f v)
once_joined op f w v h e =
    signed_sum op f w (pos 1) v h e ∙ ap (λ (z : ℤ). int_wrap w16 (binary_value op f z)) (*ℤ_comm (pos 1) v ∙ times_one v)

-- and its product with a number of the text
pub product_joined : (op : BinaryOp) (f w n m v : ℤ) → adds op ≡ true → Same16 w (signed op n) → n ≡ m
    → Same16 (f +ℤ w *ℤ v) (binary_value op f (wrapped (m *ℤ v)))
product_joined op f w n m v h e i =
    signed_sum op f w n v h e
    ∙ binary_same op f (n *ℤ v) (wrapped (m *ℤ v)) h (ap (λ (z : ℤ). int_wrap w16 (z *ℤ v)) i ∙ sym (same_wrapped (m *ℤ v)))

pub begun : (v : ℤ) → Same16 (wrapped (pos 0 +ℤ v)) v
begun v = same_wrapped (pos 0 +ℤ v) ∙ ap (int_wrap w16) (omega (arith, ints))

pub same_sum : (f a b : ℤ) → a ≡ b → Same16 (f +ℤ a) (f +ℤ b)
same_sum f a b e = ap (λ (z : ℤ). int_wrap w16 (f +ℤ z)) e

-- a product with a factor that is wrapped, and one with 0
pub product_wrapped : (f factor w x : ℤ) → w ≡ int_wrap w16 factor → Same16 (f +ℤ w *ℤ x) (f +ℤ factor *ℤ x)
product_wrapped f factor w x e =
    same_add f f (w *ℤ x) (factor *ℤ x) refl (ap (λ (z : ℤ). int_wrap w16 (z *ℤ x)) e ∙ int_wrap-mul_left w16 factor x)

pub product_none : (f factor x : ℤ) → factor ≡ pos 0 → Same16 f (f +ℤ factor *ℤ x)
product_none f factor x e = ap (int_wrap w16) (sym (ap (λ (z : ℤ). f +ℤ z) (ap (λ (z : ℤ). z *ℤ x) e ∙ zero-*ℤ x) ∙ +ℤ_idr f))

-- ---- the rest of a sum

pub rest_same : (w : Bool) (x r s : ℤ) → Same16 r s → IsRest w x r → IsRest w x s
rest_same true x r s e h = h ∙ e
rest_same false x r s e h = sym e ∙ h

pub rest_is : (w : Bool) (x r s : ℤ) → r ≡ s → IsRest w x r → IsRest w x s
rest_is w x r s e h = subst (IsRest w x) e h

pub gives_same : (n : ℕ) (f g : ℕ → ℤ) (sum : NarrowSum) (out : List ℤ) → EachPlace n (λ k. Same16 (f k) (g k)) → GivesSum n f sum out
    → GivesSum n g sum out
gives_same n f g sum out e h = λ k l.
    rest_same sum.is_written (at out k) _ _ (same_less (f k) (g k) (waiting_at sum k) (e k l)) (h k l)

none_waits : (sum : NarrowSum) (k : ℕ) → sum.tap_count ≡ 0 → sum.difference_count ≡ 0 → waiting_at sum k ≡ pos 0
none_waits sum k t d = rw t (rw d refl)

less_nothing : (a b : ℤ) → b ≡ pos 0 → a -ℤ b ≡ a
less_nothing a b e = omega (arith, ints, e)

-- a sum without addends is what the row has, if it is written
pub gives_rest : (n : ℕ) (f : ℕ → ℤ) (sum : NarrowSum) (out : List ℤ) (w : Bool) → sum.is_written ≡ w → sum.tap_count ≡ 0
    → sum.difference_count ≡ 0 → EachPlace n (λ k. IsRest w (at out k) (f k)) → GivesSum n f sum out
gives_rest n f sum out w e t d h = λ k l.
    rest_is sum.is_written (at out k) (f k) _ (sym (less_nothing (f k) (waiting_at sum k) (none_waits sum k t d)))
    (subst (λ (b : Bool). IsRest b (at out k) (f k)) (sym e) (h k l))

-- and nothing if that is not written
pub gives_nothing : (n : ℕ) (f : ℕ → ℤ) (sum : NarrowSum) (out : List ℤ) → sum.is_written ≡ false → sum.tap_count ≡ 0
    → sum.difference_count ≡ 0 → EachPlace n (λ k. f k ≡ pos 0) → GivesSum n f sum out
gives_nothing n f sum out w t d h = λ k l.
    subst (λ (b : Bool). IsRest b (at out k) (f k -ℤ waiting_at sum k)) (sym w)
    (ap (int_wrap w16) (less_nothing (f k) (waiting_at sum k) (none_waits sum k t d) ∙ h k l))

pub no_addends : (n : ℕ) (sum : NarrowSum) → HasSpace sum → sum.tap_count ≡ 0 → sum.difference_count ≡ 0 → HasAddends n sum
no_addends n sum space t d = record {
  space = space;
  tap_count = omega (arith, t);
  taps = subst (λ (m : ℕ). HaveTapLines n (take m sum.taps)) (sym t) (All-nil (λ (tap : NarrowTap). length tap.line.now ≡ n));
  difference_count = omega (arith, d);
  differences = subst (λ (m : ℕ). HaveDifferenceLines n (take m sum.differences)) (sym d)
      (All-nil (λ (x : NarrowClampedDifference). (length x.left.now ≡ n) × (length x.right.now ≡ n)));
}

-- ---- the addends are added to the row

pub written_from_nothing : (rest t y : ℤ) → Same16 rest (pos 0) → y ≡ int_wrap w16 t → y ≡ int_wrap w16 (rest +ℤ t)
written_from_nothing rest t y e h = h ∙ ap (int_wrap w16) (omega (arith, ints)) ∙ sym (same_add rest (pos 0) t t e refl)

pub taps_taken : (f t d : ℤ) (w : Bool) (x y : ℤ) → IsRest w x (f -ℤ (t +ℤ d)) → ((rest : ℤ) → IsRest w x rest → y ≡ int_wrap w16 (rest +ℤ t))
    → y ≡ int_wrap w16 (f -ℤ (pos 0 +ℤ d))
taps_taken f t d w x y h taken = taken _ h ∙ ap (int_wrap w16) (omega (arith, ints))

-- without differences, taps and a number complete a sum that is divided
pub divided : (f t d n : ℤ) (w : Bool) (x y : ℤ) (m : ℕ) → d ≡ pos 0 → IsRest w x (f -ℤ (t +ℤ d))
    → ((rest : ℤ) → IsRest w x rest → y ≡ floor_div (int_wrap w16 (rest +ℤ (t +ℤ n))) (pos m))
    → y ≡ floor_div (int_wrap w16 (f +ℤ n)) (pos m)
divided f t d n w x y m none h made =
    made _ h ∙ ap (λ (z : ℤ). floor_div (int_wrap w16 z) (pos m)) (omega (arith, ints, none))

pub no_differences : (sum : NarrowSum) (k : ℕ) → sum.difference_count ≡ 0
    → narrow_difference_sum (take sum.difference_count sum.differences) k ≡ pos 0
no_differences sum k d = rw d refl

-- a sum and 0, wrapped, is the sum if that fits
pub with_nothing : (a : ℤ) → FitsSigned w16 a → int_wrap w16 (a +ℤ pos 0) ≡ a
with_nothing a fits = ap (int_wrap w16) (+ℤ_idr a) ∙ int_wrap_fits w16 a fits

pub differences_taken : (f t d : ℤ) (w : Bool) (x y : ℤ) → IsRest w x (f -ℤ (t +ℤ d))
    → ((rest : ℤ) → IsRest w x rest → y ≡ int_wrap w16 (rest +ℤ d)) → y ≡ int_wrap w16 (f -ℤ (t +ℤ pos 0))
differences_taken f t d w x y h taken = taken _ h ∙ ap (int_wrap w16) (omega (arith, ints))

-- ---- one more addend

end_of : (a b c d : ℤ) → c ≡ b +ℤ d → a +ℤ c ≡ (a +ℤ b) +ℤ d
end_of a b c d e = omega (arith, ints)

pub tap_sum_end : (xs : List NarrowTap) (tap : NarrowTap) (k : ℕ) → tap_sum (xs ++ tap ∷ []) k ≡ tap_sum xs k +ℤ tap_at tap k
tap_sum_end [] tap k = omega (arith, ints)
tap_sum_end (x ∷ xs) tap k = end_of (tap_at x k) (tap_sum xs k) _ (tap_at tap k) (tap_sum_end xs tap k)

pub difference_sum_end : (xs : List NarrowClampedDifference) (d : NarrowClampedDifference) (k : ℕ)
    → narrow_difference_sum (xs ++ d ∷ []) k ≡ narrow_difference_sum xs k +ℤ narrow_difference_at d k
difference_sum_end [] d k = omega (arith, ints)
difference_sum_end (x ∷ xs) d k =
    end_of (narrow_difference_at x k) (narrow_difference_sum xs k) _ (narrow_difference_at d k) (difference_sum_end xs d k)

-- the addends with one more
pub more_taps : (taps : List NarrowTap) (count : ℕ) (tap : NarrowTap) (k : ℕ) → count < length taps
    → tap_sum (take (count + 1) (set taps count tap)) k ≡ tap_sum (take count taps) k +ℤ tap_at tap k
more_taps taps count tap k l =
    ap (λ (ts : List NarrowTap). tap_sum ts k) (take_more_set taps count tap l) ∙ tap_sum_end (take count taps) tap k

pub more_tap_lines : (n : ℕ) (taps : List NarrowTap) (count : ℕ) (tap : NarrowTap) → count < length taps → HaveTapLines n (take count taps)
    → length tap.line.now ≡ n → HaveTapLines n (take (count + 1) (set taps count tap))
more_tap_lines n taps count tap l h e =
    subst (HaveTapLines n) (sym (take_more_set taps count tap l))
    (All-append HasLine (take count taps) (tap ∷ []) h (All-cons HasLine tap [] e (All-nil HasLine)))
  where
    HasLine : NarrowTap → Type 0
    HasLine t = length t.line.now ≡ n

pub more_differences : (ds : List NarrowClampedDifference) (count : ℕ) (d : NarrowClampedDifference) (k : ℕ) → count < length ds
    → narrow_difference_sum (take (count + 1) (set ds count d)) k ≡ narrow_difference_sum (take count ds) k +ℤ narrow_difference_at d k
more_differences ds count d k l =
    ap (λ (xs : List NarrowClampedDifference). narrow_difference_sum xs k) (take_more_set ds count d l)
    ∙ difference_sum_end (take count ds) d k

pub more_difference_lines : (n : ℕ) (ds : List NarrowClampedDifference) (count : ℕ) (d : NarrowClampedDifference) → count < length ds
    → HaveDifferenceLines n (take count ds) → length d.left.now ≡ n → length d.right.now ≡ n
    → HaveDifferenceLines n (take (count + 1) (set ds count d))
more_difference_lines n ds count d l h e f =
    subst (HaveDifferenceLines n) (sym (take_more_set ds count d l))
    (All-append HasLines (take count ds) (d ∷ []) h (All-cons HasLines d [] (e, f) (All-nil HasLines)))
  where
    HasLines : NarrowClampedDifference → Type 0
    HasLines x = (length x.left.now ≡ n) × (length x.right.now ≡ n)

pub one_more : (f t d a u : ℤ) (w : Bool) (x : ℤ) → u ≡ t +ℤ a → IsRest w x (f -ℤ (t +ℤ d)) → IsRest w x (f +ℤ a -ℤ (u +ℤ d))
one_more f t d a u w x e h = rest_is w x _ _ (omega (arith, ints, e)) h

pub one_more_difference : (f t d a u : ℤ) (w : Bool) (x : ℤ) → u ≡ d +ℤ a → IsRest w x (f -ℤ (t +ℤ d)) → IsRest w x (f +ℤ a -ℤ (t +ℤ u))
one_more_difference f t d a u w x e h = rest_is w x _ _ (omega (arith, ints, e)) h
