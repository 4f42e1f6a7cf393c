-- Numbers wrapped at 16 bits.
use Rattle.std.proofs.Common.{arith, suc, ℤ, ◌≡◌, ◌-◌, pos, negsuc, ◌+ℤ◌, ◌-ℤ◌, ◌≤ℤ◌, ◌<ℤ◌, w16}
use Rattle.std.proofs.Common.{ap, sym, refl, ◌∙◌, unsigned_abs, ltb, false, to_z}
use Rattle.std.proofs.lemmas.Bool.Decides.{nat_tests}
use Rattle.std.specs.Int.{int_wrap, cast_signed}
use Rattle.std.proofs.lemmas.Int.{ints, int_wrap-add_left, int_wrap-add_right}
use Rattle.domains.specs.Arithmetic.{floor_rem}

-- what a division by 2 ^ 16 leaves, below 2 ^ 15 and from there on
pub wrap_of_low : (z r : ℤ) → r ≡ floor_rem z (pos 65536) → pos 0 ≤ℤ r → r <ℤ pos 32768 → r ≡ int_wrap w16 z
unfolding int_wrap
wrap_of_low z r e low high =
    let n : r ≡ cast_signed w16 (unsigned_abs r) = omega (arith, ints) in
    n ∙ ap (λ (x : ℤ). cast_signed w16 (unsigned_abs x)) e

pub wrap_of_high : (z r : ℤ) → r ≡ floor_rem z (pos 65536) → pos 32768 ≤ℤ r → r <ℤ pos 65536 → r -ℤ pos 65536 ≡ int_wrap w16 z
unfolding int_wrap
wrap_of_high z (negsuc n) e low high = absurd (omega (arith, ints))
wrap_of_high z (pos n) e low high =
    let above : ltb n 32768 ≡ false = grind (arith, nat_tests) in
    let made : to_z w16 n ≡ negsuc (65536 - suc n) = rw above refl in
    let short : pos n -ℤ pos 65536 ≡ negsuc (65536 - suc n) = omega (arith, ints) in
    short ∙ sym made ∙ ap (λ (x : ℤ). cast_signed w16 (unsigned_abs x)) e

-- a sum whose left number was wrapped first, or its right one
pub wrapped_left : (x a y : ℤ) → x ≡ int_wrap w16 a → int_wrap w16 (x +ℤ y) ≡ int_wrap w16 (a +ℤ y)
wrapped_left x a y e = ap (λ (z : ℤ). int_wrap w16 (z +ℤ y)) e ∙ int_wrap-add_left w16 a y

pub wrapped_right : (x a y b : ℤ) → x ≡ a → y ≡ int_wrap w16 b → int_wrap w16 (x +ℤ y) ≡ int_wrap w16 (a +ℤ b)
wrapped_right x a y b e f =
    ap (λ (z : ℤ). int_wrap w16 (z +ℤ y)) e ∙ ap (λ (z : ℤ). int_wrap w16 (a +ℤ z)) f ∙ int_wrap-add_right w16 a b

-- or both
pub wrapped_sum : (x y a b : ℤ) → x ≡ int_wrap w16 a → y ≡ int_wrap w16 b → int_wrap w16 (x +ℤ y) ≡ int_wrap w16 (a +ℤ b)
wrapped_sum x y a b e f = wrapped_left x a y e ∙ wrapped_right a a y b refl f
