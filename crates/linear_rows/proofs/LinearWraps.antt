-- Sums wrapped at 32 bits: their parts may be wrapped first.
use Rattle.std.proofs.Common.{ℤ, ◌≡◌, ◌+ℤ◌, w32, ap, refl, ◌∙◌}
use Rattle.std.proofs.lemmas.Int.{int_wrap-add_left, int_wrap-add_right}
use Rattle.domains.specs.Arithmetic.{wrapped}

-- a sum whose left number was wrapped first, or its right one, or both
pub wrapped_left : (x a y : ℤ) → x ≡ wrapped a → wrapped (x +ℤ y) ≡ wrapped (a +ℤ y)
wrapped_left x a y e = ap (λ (z : ℤ). wrapped (z +ℤ y)) e ∙ int_wrap-add_left w32 a y

pub wrapped_right : (x a y b : ℤ) → x ≡ a → y ≡ wrapped b → wrapped (x +ℤ y) ≡ wrapped (a +ℤ b)
wrapped_right x a y b e f =
    ap (λ (z : ℤ). wrapped (z +ℤ y)) e ∙ ap (λ (z : ℤ). wrapped (a +ℤ z)) f ∙ int_wrap-add_right w32 a b

pub wrapped_sum : (x y a b : ℤ) → x ≡ wrapped a → y ≡ wrapped b → wrapped (x +ℤ y) ≡ wrapped (a +ℤ b)
wrapped_sum x y a b e f = wrapped_left x a y e ∙ wrapped_right a a y b refl f
