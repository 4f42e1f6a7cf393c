-- Sums under a kernel that is a product: first down, and then along.
use Rattle.std.proofs.Common.{arith, ℕ, zero, suc, ℤ, ◌≡◌, ◌<◌, pos, ◌+ℤ◌, ◌*ℤ◌, w32, List, length, ◌∙◌, ap, sym, refl}
use Rattle.std.proofs.Math.IntN.{*ℤ-zero}
use Rattle.std.proofs.lemmas.Int.{int_wrap-mul_right}
use Rattle.domains.specs.Arithmetic.{wrapped}
use Rattle.operators.specs.Values.{sum_below, factors}
use Rattle.operators.proofs.KernelSums.{sum_below-agrees}
use Rattle.row_loops.specs.Rows.{at}
use Rattle.stencil_kernels.specs.Separable.{IsSeparable}
use Rattle.stencil_kernels.proofs.ProductLaws.{grouped, over_sum, other_order}
use Rattle.stencil_kernels.proofs.Taps.{wrapped_two}

-- ---- sums

-- sums of numbers that are the same at 32 bits
pub same_wrapped : (n : ℕ) (f h : ℕ → ℤ) → ((k : ℕ) → k < n → wrapped (f k) ≡ wrapped (h k))
    → wrapped (sum_below n f) ≡ wrapped (sum_below n h)
same_wrapped zero f h same = refl
same_wrapped (suc n) f h same =
    let last : n < suc n = omega arith in
    let before = same_wrapped n f h (λ k l. same k (omega arith)) in
    sym (wrapped_two (sum_below n f) (f n)) ∙ (λ i. wrapped (before i +ℤ same n last i)) ∙ wrapped_two (sum_below n h) (h n)

nothing : (n : ℕ) → pos 0 ≡ sum_below n (λ k. pos 0)
nothing zero = refl
nothing (suc n) = ap (λ (z : ℤ). z +ℤ pos 0) (nothing n)

pub both : (n : ℕ) (f h : ℕ → ℤ) → sum_below n f +ℤ sum_below n h ≡ sum_below n (λ k. f k +ℤ h k)
both zero f h = refl
both (suc n) f h =
    grouped (sum_below n f) (f n) (sum_below n h) (h n) ∙ ap (λ (z : ℤ). z +ℤ (f n +ℤ h n)) (both n f h)

times_each : (m : ℤ) (n : ℕ) (f : ℕ → ℤ) → m *ℤ sum_below n f ≡ sum_below n (λ k. m *ℤ f k)
times_each m zero f = *ℤ-zero m
times_each m (suc n) f = over_sum m (sum_below n f) (f n) ∙ ap (λ (z : ℤ). z +ℤ m *ℤ f n) (times_each m n f)

-- a table of numbers, added up by columns and by rows
by_rows : (rows cols : ℕ) (f : ℕ → ℕ → ℤ)
    → sum_below cols (λ b. sum_below rows (λ a. f a b)) ≡ sum_below rows (λ a. sum_below cols (λ b. f a b))
by_rows rows zero f = nothing rows
by_rows rows (suc n) f =
    ap (λ (z : ℤ). z +ℤ sum_below rows (λ a. f a n)) (by_rows rows n f)
    ∙ both rows (λ a. sum_below n (λ b. f a b)) (λ a. f a n)

-- ---- kernels

-- x a b is the sample under row a and column b, and y b what the samples in column b give
module _ (kernel : List (List ℤ)) (down along : List ℤ) (x : ℕ → ℕ → ℤ) (is : IsSeparable kernel down along) where
  along_columns : sum_below (length along) (λ b. at along b *ℤ sum_below (length down) (λ a. at down a *ℤ x a b))
      ≡ sum_below (length along) (λ b. sum_below (length down) (λ a. at down a *ℤ at along b *ℤ x a b))
  along_columns = sum_below-agrees (length along) _ _ (λ b l.
      times_each (at along b) (length down) (λ a. at down a *ℤ x a b)
      ∙ sum_below-agrees (length down) _ _ (λ a h. other_order (at along b) (at down a) (x a b)))

  row : (a : ℕ) → a < length down → sum_below (length along) (λ b. at down a *ℤ at along b *ℤ x a b)
      ≡ sum_below (length (factors kernel a)) (λ b. at (factors kernel a) b *ℤ x a b)
  row a h =
      sum_below-agrees (length along) _ _ (λ b l. ap (λ (z : ℤ). z *ℤ x a b) (sym ((is.rows a h).products b l)))
      ∙ ap (λ (n : ℕ). sum_below n (λ b. at (factors kernel a) b *ℤ x a b)) (sym ((is.rows a h).width))

  all_rows : sum_below (length down) (λ a. sum_below (length along) (λ b. at down a *ℤ at along b *ℤ x a b))
      ≡ sum_below (length kernel) (λ a. sum_below (length (factors kernel a)) (λ b. at (factors kernel a) b *ℤ x a b))
  all_rows =
      sum_below-agrees (length down) _ _ row
      ∙ ap (λ (n : ℕ). sum_below n (λ a. sum_below (length (factors kernel a)) (λ b. at (factors kernel a) b *ℤ x a b))) (sym is.height)

  pub down_then_along : (y : ℕ → ℤ)
      → ((b : ℕ) → b < length along → y b ≡ wrapped (sum_below (length down) (λ a. at down a *ℤ x a b)))
      → wrapped (sum_below (length along) (λ b. at along b *ℤ y b))
      ≡ wrapped (sum_below (length kernel) (λ a. sum_below (length (factors kernel a)) (λ b. at (factors kernel a) b *ℤ x a b)))
  down_then_along y sums =
      same_wrapped (length along) _ _ (λ b l.
      ap (λ (z : ℤ). wrapped (at along b *ℤ z)) (sums b l)
      ∙ int_wrap-mul_right w32 (at along b) (sum_below (length down) (λ a. at down a *ℤ x a b)))
      ∙ ap wrapped (along_columns ∙ by_rows (length down) (length along) (λ a b. at down a *ℤ at along b *ℤ x a b) ∙ all_rows)
