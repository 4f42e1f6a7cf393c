-- Laws of products of whole numbers.
use Rattle.std.proofs.Common.{arith, ℕ, zero, suc, ℤ, ◌≡◌, pos, negsuc, neg_ℤ, ◌+ℤ◌, ◌*ℤ◌, ap, sym, ◌∙◌}
use Rattle.std.proofs.Math.IntN.{suc_ℤ-*ℤ, *ℤ_comm, *ℤ-negsuc, zero-*ℤ}
use Rattle.std.proofs.lemmas.Int.{ints}

grouped : (a b c d : ℤ) → a +ℤ b +ℤ (c +ℤ d) ≡ a +ℤ c +ℤ (b +ℤ d)
grouped a b c d = omega (arith, ints)

negated_sum : (a b : ℤ) → neg_ℤ (a +ℤ b) ≡ neg_ℤ a +ℤ neg_ℤ b
negated_sum a b = omega (arith, ints)

-- a factor below 0
below_zero : (n : ℕ) (x : ℤ) → negsuc n *ℤ x ≡ neg_ℤ (pos (suc n) *ℤ x)
below_zero n x = *ℤ_comm (negsuc n) x ∙ *ℤ-negsuc x n ∙ ap neg_ℤ (*ℤ_comm x (pos (suc n)))

-- a factor of a sum is one of each part
from_zero : (n : ℕ) (x y : ℤ) → pos n *ℤ (x +ℤ y) ≡ pos n *ℤ x +ℤ pos n *ℤ y
from_zero zero x y = zero-*ℤ (x +ℤ y) ∙ sym (λ i. zero-*ℤ x i +ℤ zero-*ℤ y i)
from_zero (suc n) x y =
    suc_ℤ-*ℤ (pos n) (x +ℤ y) ∙ ap (λ (z : ℤ). z +ℤ (x +ℤ y)) (from_zero n x y) ∙ grouped (pos n *ℤ x) (pos n *ℤ y) x y
    ∙ sym (λ i. suc_ℤ-*ℤ (pos n) x i +ℤ suc_ℤ-*ℤ (pos n) y i)

pub over_sum : (m x y : ℤ) → m *ℤ (x +ℤ y) ≡ m *ℤ x +ℤ m *ℤ y
over_sum (pos n) x y = from_zero n x y
over_sum (negsuc n) x y =
    below_zero n (x +ℤ y) ∙ ap neg_ℤ (from_zero (suc n) x y) ∙ negated_sum (pos (suc n) *ℤ x) (pos (suc n) *ℤ y)
    ∙ sym (λ i. below_zero n x i +ℤ below_zero n y i)

pub sum_times : (x y m : ℤ) → (x +ℤ y) *ℤ m ≡ x *ℤ m +ℤ y *ℤ m
sum_times x y m = *ℤ_comm (x +ℤ y) m ∙ over_sum m x y ∙ (λ i. *ℤ_comm m x i +ℤ *ℤ_comm m y i)

nothing : (a : ℤ) → a +ℤ neg_ℤ a ≡ pos 0
nothing a = omega (arith, ints)

pub negated_times : (x m : ℤ) → neg_ℤ x *ℤ m ≡ neg_ℤ (x *ℤ m)
negated_times x m =
    opposite (x *ℤ m) (neg_ℤ x *ℤ m) (sym (sum_times x (neg_ℤ x) m) ∙ ap (λ (z : ℤ). z *ℤ m) (nothing x) ∙ zero-*ℤ m)
  where
    opposite : (a b : ℤ) → a +ℤ b ≡ pos 0 → b ≡ neg_ℤ a
    opposite a b h = omega (arith, ints, h)

-- three factors
times_more : (n : ℕ) (x y : ℤ) → pos n *ℤ x *ℤ y ≡ pos n *ℤ (x *ℤ y)
times_more zero x y = ap (λ (z : ℤ). z *ℤ y) (zero-*ℤ x) ∙ zero-*ℤ y ∙ sym (zero-*ℤ (x *ℤ y))
times_more (suc n) x y =
    ap (λ (z : ℤ). z *ℤ y) (suc_ℤ-*ℤ (pos n) x) ∙ sum_times (pos n *ℤ x) x y ∙ ap (λ (z : ℤ). z +ℤ x *ℤ y) (times_more n x y)
    ∙ sym (suc_ℤ-*ℤ (pos n) (x *ℤ y))

pub three_factors : (m x y : ℤ) → m *ℤ x *ℤ y ≡ m *ℤ (x *ℤ y)
three_factors (pos n) x y = times_more n x y
three_factors (negsuc n) x y =
    ap (λ (z : ℤ). z *ℤ y) (below_zero n x) ∙ negated_times (pos (suc n) *ℤ x) y ∙ ap neg_ℤ (times_more (suc n) x y)
    ∙ sym (below_zero n (x *ℤ y))
