-- Sums of factors and numbers of a line, wrapped at each step and at the end.
use Rattle.std.proofs.Common.{arith, ℤ, ◌≡◌, pos, ◌+ℤ◌, ◌*ℤ◌, w32, ap, sym, ◌∙◌}
use Rattle.std.proofs.Math.IntN.{+ℤ_idr, *ℤ_comm, *ℤ-one, zero-*ℤ, one}
use Rattle.std.proofs.lemmas.Int.{ints, int_wrap_fits, int_wrap-add_left, int_wrap-add_right}
use Rattle.domains.specs.Arithmetic.{wrapped}

-- sums of wrapped numbers
pub wrapped_two : (a b : ℤ) → wrapped (wrapped a +ℤ wrapped b) ≡ wrapped (a +ℤ b)
wrapped_two a b = int_wrap-add_left w32 a (wrapped b) ∙ int_wrap-add_right w32 a b

-- the sum of nothing
pub zero_wrapped : pos 0 ≡ wrapped (pos 0)
zero_wrapped = sym (int_wrap_fits w32 (pos 0) (omega (arith, ints)))

-- one tap, where the factor is 0 or 1
one_times : (y : ℤ) → pos 1 *ℤ y ≡ y
unfolding one
one_times y = *ℤ_comm (pos 1) y ∙ *ℤ-one y

pub tap_of_zero : (s x y : ℤ) → x ≡ wrapped s → x ≡ wrapped (s +ℤ pos 0 *ℤ y)
tap_of_zero s x y e = e ∙ ap wrapped (sym (ap (λ (z : ℤ). s +ℤ z) (zero-*ℤ y) ∙ +ℤ_idr s))

pub tap_of_one : (s x y t : ℤ) → x ≡ wrapped s → t ≡ wrapped (x +ℤ y) → t ≡ wrapped (s +ℤ pos 1 *ℤ y)
tap_of_one s x y t e h =
    h ∙ ap (λ (z : ℤ). wrapped (z +ℤ y)) e ∙ int_wrap-add_left w32 s y
    ∙ ap (λ (z : ℤ). wrapped (s +ℤ z)) (sym (one_times y))

pub tap_of_other : (s x p t : ℤ) → x ≡ wrapped s → t ≡ wrapped (x +ℤ wrapped p) → t ≡ wrapped (s +ℤ p)
tap_of_other s x p t e h = h ∙ ap (λ (z : ℤ). wrapped (z +ℤ wrapped p)) e ∙ wrapped_two s p
