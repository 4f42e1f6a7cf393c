-- Factors that are the same from both ends.
use Rattle.std.proofs.Common.{arith, ℤ, ◌≡◌, pos, ◌+ℤ◌, ◌*ℤ◌, ◌∙◌}
use Rattle.std.proofs.lemmas.Int.{ints}
use Rattle.stencil_kernels.proofs.ProductLaws.{over_sum}

-- the numbers under one factor are added first
pub mirrored : (o i m a b c d e : ℤ)
    → pos 0 +ℤ o *ℤ (a +ℤ e) +ℤ i *ℤ (b +ℤ d) +ℤ m *ℤ c ≡ pos 0 +ℤ o *ℤ a +ℤ i *ℤ b +ℤ m *ℤ c +ℤ i *ℤ d +ℤ o *ℤ e
mirrored o i m a b c d e =
    (λ t. pos 0 +ℤ over_sum o a e t +ℤ over_sum i b d t +ℤ m *ℤ c)
    ∙ turned (o *ℤ a) (o *ℤ e) (i *ℤ b) (i *ℤ d) (m *ℤ c)
  where
    turned : (u v x y z : ℤ) → pos 0 +ℤ (u +ℤ v) +ℤ (x +ℤ y) +ℤ z ≡ pos 0 +ℤ u +ℤ x +ℤ z +ℤ y +ℤ v
    turned u v x y z = omega (arith, ints)
