-- Sums of as many numbers.
use Rattle.std.proofs.Common.{ℕ, suc, zero, arith, ◌<◌, ◌≡◌, ℤ, ◌+ℤ◌, ap, ◌∙◌, refl}
use Rattle.operators.specs.Values.{sum_below}

lt_more : (k n : ℕ) → k < n → k < suc n
lt_more k n h = omega arith

lt_last : (n : ℕ) → n < suc n
lt_last n = omega arith

pub sum_below-agrees : (n : ℕ) (f h : ℕ → ℤ) → ((k : ℕ) → k < n → f k ≡ h k) → sum_below n f ≡ sum_below n h
sum_below-agrees zero f h same = refl
sum_below-agrees (suc n) f h same =
    ap (λ (z : ℤ). z +ℤ f n) (sum_below-agrees n f h (λ k l. same k (lt_more k n l)))
    ∙ ap (λ (z : ℤ). sum_below n h +ℤ z) (same n (lt_last n))
