-- What it means to wrap a whole number at a signed type.
use Rattle.std.proofs.Common.{ℕ, ℤ, pos, negsuc, ◌≡◌, ◌-◌, ◌*◌, ◌/◌, ◌%◌, ◌^◌, ◌<◌, ◌+ℤ◌, ◌*ℤ◌, suc, refl, sym, ap, ◌∙◌, arith}
use Rattle.std.proofs.Common.{FitsSigned, unsigned_abs, w32, w64, to_z, of_z, Bool, true, false, cond}
use Rattle.std.specs.Int.{Width, int_wrap, cast_signed}
use mir.Val.{bits, hbits}
use borrow.Author.Differences.{sum_is_lem}
use Rattle.std.proofs.Math.IntN.{*ℤ-zero, +ℤ_idr}
use Rattle.std.proofs.Math.Dec.{ltb}
use Rattle.std.proofs.Math.Nat.{mod-eq_of_lt, mod-lt}
use Rattle.std.proofs.Math.Pow.{pow_pos}
use Rattle.std.proofs.lemmas.Nat.{div-add-mod', pow_below}
use Rattle.std.proofs.lemmas.Int.{to_z-of_z, ints, int_wrap_fits, int_wrap-add_right, int_wrap-mul_right, wrapping_mul-bits, SFits-int_wrap}
use Rattle.domains.specs.Arithmetic.{IsWrapped, IsCongruent, wrapped, wrapped_long}

-- the bits of a natural number below the type's modulus, read as a signed number
pub bits_wrapped : (n : ℕ) → n < 2 ^ 32 → cast_signed w32 n ≡ int_wrap w32 (pos n)
unfolding int_wrap
bits_wrapped n h = ap (cast_signed w32) (sym (mod-eq_of_lt h))

pub abs_wrapped : (a r : ℤ) → FitsSigned w32 a → FitsSigned w32 r → r ≡ cast_signed w32 (unsigned_abs a)
    → to_z w32 (of_z w32 r) ≡ wrapped (pos (unsigned_abs a))
abs_wrapped a r f g e =
    let small : unsigned_abs a < 2 ^ 32 = omega (arith, ints) in
    to_z-of_z w32 r g ∙ e ∙ bits_wrapped (unsigned_abs a) small

pub shl_wrapped : (a : ℤ) (k : ℕ) → FitsSigned w32 a → k < 32 → to_z w32 ((of_z w32 a * 2 ^ k) % 2 ^ 32) ≡ wrapped (a *ℤ pos (2 ^ k))
shl_wrapped a k f h =
    let power : 2 ^ k < 2 ^ 32 = pow_below k 32 h in
    let bits : of_z w32 a < 2 ^ 32 = omega (arith, ints) in
    wrapping_mul-bits w32 (of_z w32 a) (2 ^ k) bits power
    ∙ (λ i. int_wrap w32 (to_z-of_z w32 a f i *ℤ cast_signed w32 (2 ^ k)))
    ∙ ap (λ z. int_wrap w32 (a *ℤ z)) (bits_wrapped (2 ^ k) power)
    ∙ int_wrap-mul_right w32 a (pos (2 ^ k))

-- the signed number of some bits differs from their number by no or one modulus
read_bits : (w : Width) (n : ℕ) → n < 2 ^ bits w → (t : Bool) → ltb n (2 ^ hbits w) ≡ t
    → (j : ℤ) × (pos n ≡ cond t (pos n) (negsuc (2 ^ bits w - suc n)) +ℤ j *ℤ pos (2 ^ bits w))
read_bits w n h true e = (pos 0, omega (arith, ints))
read_bits w n h false e = (pos 1, omega (arith, ints))

bits_read : (w : Width) (n : ℕ) → n < 2 ^ bits w → IsCongruent (pos (2 ^ bits w)) (pos n) (cast_signed w n)
bits_read w n h = read_bits w n h (ltb n (2 ^ hbits w)) refl

distributes : (j k : ℤ) (m : ℕ) → (j +ℤ k) *ℤ pos m ≡ j *ℤ pos m +ℤ k *ℤ pos m
distributes j k m =
    let sum = ap (λ (x : ℕ). x * m) (sum_is_lem j k) in
    omega (arith, ints, sum)

congruent_through : (a b c : ℤ) (m : ℕ) → IsCongruent (pos m) a b → IsCongruent (pos m) b c → IsCongruent (pos m) a c
congruent_through a b c m p q =
    let first = p.1 in
    let second = q.1 in
    (q.0 +ℤ p.0, omega (arith, ints, distributes q.0 p.0 m))

to_bits : (a m : ℕ) → IsCongruent (pos m) (pos a) (pos (a % m))
to_bits a m = (pos (a / m), omega (arith, ints, div-add-mod' a m))

to_bits_below : (a m : ℕ) → a % m < m → IsCongruent (pos m) (negsuc a) (pos (m - 1 - a % m))
to_bits_below a m h = (negsuc (a / m), omega (arith, ints, div-add-mod' a m))

-- a number differs from what is left of it by some moduli
congruent_left : (w : Width) (z : ℤ) → IsCongruent (pos (2 ^ bits w)) z (int_wrap w z)
unfolding int_wrap
congruent_left w (pos a) =
    let small : a % 2 ^ bits w < 2 ^ bits w = mod-lt a (pow_pos (bits w)) in
    congruent_through (pos a) (pos (a % 2 ^ bits w)) (cast_signed w (a % 2 ^ bits w)) (2 ^ bits w) (to_bits a (2 ^ bits w))
    (bits_read w (a % 2 ^ bits w) small)
congruent_left w (negsuc a) =
    let small : a % 2 ^ bits w < 2 ^ bits w = mod-lt a (pow_pos (bits w)) in
    let below : 2 ^ bits w - 1 - a % 2 ^ bits w < 2 ^ bits w = omega arith in
    congruent_through (negsuc a) (pos (2 ^ bits w - 1 - a % 2 ^ bits w)) (cast_signed w (2 ^ bits w - 1 - a % 2 ^ bits w)) (2 ^ bits w)
    (to_bits_below a (2 ^ bits w) small) (bits_read w (2 ^ bits w - 1 - a % 2 ^ bits w) below)

pub wrapped_is : (w : Width) (z : ℤ) → IsWrapped w (pos (2 ^ bits w)) z (int_wrap w z)
wrapped_is w z = record { fits = SFits-int_wrap w z; congruent = congruent_left w z }

-- a multiple of the modulus leaves nothing
multiple_wrapped : (w : Width) (q : ℤ) → int_wrap w (pos (2 ^ bits w)) ≡ pos 0 → FitsSigned w (pos 0)
    → int_wrap w (q *ℤ pos (2 ^ bits w)) ≡ pos 0
multiple_wrapped w q e f =
    sym (int_wrap-mul_right w q (pos (2 ^ bits w)))
    ∙ ap (λ z. int_wrap w (q *ℤ z)) e
    ∙ ap (int_wrap w) (*ℤ-zero q)
    ∙ int_wrap_fits w (pos 0) f

wrapped_only : (w : Width) (n r : ℤ) → int_wrap w (pos (2 ^ bits w)) ≡ pos 0 → FitsSigned w (pos 0) → IsWrapped w (pos (2 ^ bits w)) n r
    → r ≡ int_wrap w n
wrapped_only w n r e f h = sym (
    ap (int_wrap w) h.congruent.1
    ∙ sym (int_wrap-add_right w r (h.congruent.0 *ℤ pos (2 ^ bits w)))
    ∙ ap (λ z. int_wrap w (r +ℤ z)) (multiple_wrapped w h.congruent.0 e f)
    ∙ ap (int_wrap w) (+ℤ_idr r)
    ∙ int_wrap_fits w r h.fits)

pub wrapped_only_32 : (n r : ℤ) → IsWrapped w32 (pos (2 ^ 32)) n r → r ≡ wrapped n
unfolding int_wrap
wrapped_only_32 n r h = wrapped_only w32 n r refl (omega (arith, ints)) h

pub wrapped_only_64 : (n r : ℤ) → IsWrapped w64 (pos (2 ^ 64)) n r → r ≡ wrapped_long n
unfolding int_wrap
wrapped_only_64 n r h = wrapped_only w64 n r refl (omega (arith, ints)) h
