-- Sums of stencils whose kernels are products.
use Rattle.std.proofs.Common.{arith, ℕ, suc, ℤ, ◌≡◌, ◌+◌, ◌<◌, ◌≤◌, ◌-◌, pos, ◌+ℤ◌, ◌*ℤ◌, List, length, ◌∙◌, ap}
use Rattle.domains.specs.Arithmetic.{wrapped}
use Rattle.job.specs.Values.{sum_below, factors, kernel_row, kernel_column, weighted_sum}
use Rattle.job.specs.WellFormed.{IsKernel}
use Rattle.job.proofs.Agreeing.{sum_below-agrees}
use Rattle.row_loops.specs.Rows.{EachPlace, at}
use Rattle.stencil_kernels.specs.Separable.{IsSeparable}
use Rattle.stencil_kernels.specs.Stencil.{tap_sum}
use Rattle.stencil_kernels.proofs.Separating.{down_then_along}
use Rattle.tile_eval.specs.Reading.{KernelWithin}
use Rattle.tile_eval.specs.inside.Stencil.{column_sum, IsUnder}
use Rattle.tile_eval.proofs.Sums.{under_shifted}
use Rattle.tile_eval.proofs.Gathering.{few_factors, has_rows, row_positive}

-- one row more of the sums of columns
pub column_more : (f : ℤ → ℤ → ℤ) (kernel : List (List ℤ)) (r c : ℤ) (down line : List ℤ) (a j : ℕ) (t x : ℤ)
    → IsUnder kernel f r c a line → j < length line → x ≡ at down a
    → t ≡ wrapped (sum_below a (λ a. at down a *ℤ f (kernel_row kernel r a) (kernel_column kernel c j)) +ℤ x *ℤ at line j)
    → t ≡ wrapped (sum_below (suc a) (λ a. at down a *ℤ f (kernel_row kernel r a) (kernel_column kernel c j)))
column_more f kernel r c down line a j t x under l e h =
    h ∙ (λ i. wrapped (sum_below a (λ a. at down a *ℤ f (kernel_row kernel r a) (kernel_column kernel c j)) +ℤ e i *ℤ under j l i))

module _ (kernel : List (List ℤ)) (down along : List ℤ) (is : IsKernel kernel) (product : IsSeparable kernel down along) where
  same_width : (a : ℕ) → a < length down → length (factors kernel a) ≡ length along
  same_width a h = (product.rows a h).width

  same_height : length kernel ≡ length down
  same_height = product.height

  -- the row of factors has the width of the kernel
  pub along_width : (0 < length along) × (length along ≤ 15)
  along_width =
      let some = has_rows kernel is in
      let height = same_height in
      let width = same_width 0 (omega arith) in
      let least = row_positive kernel 0 is some in
      let most = few_factors kernel 0 is some in
      (omega arith, omega arith)

  -- what is read for the sums of columns
  pub columns_within : (has : ℤ → ℤ → Type 0) (r c : ℤ) (n m : ℕ) → KernelWithin has kernel r c n → m ≡ n + length along - 1
      → EachPlace (length down) (λ a. EachPlace m (λ j. has (kernel_row kernel r a) (kernel_column kernel c j)))
  columns_within has r c n m within len = λ a l j h.
      let height = same_height in
      let width = same_width a l in
      let some = along_width.0 in
      within a j (omega arith) (omega arith)

  -- the sums of the columns, taken along
  pub separated : (f : ℤ → ℤ → ℤ) (r c : ℤ) (sums : List ℤ) (k n : ℕ) (t : ℤ) → length sums ≡ n + length along - 1 → k < n
      → EachPlace (length sums) (λ j. at sums j ≡ wrapped (column_sum kernel f r c down j))
      → t ≡ wrapped (tap_sum along sums k) → t ≡ wrapped (weighted_sum kernel f r (c +ℤ pos k))
  separated f r c sums k n t len lt right h =
      h ∙ down_then_along kernel down along (λ a b. f (kernel_row kernel r a) (kernel_column kernel (c +ℤ pos k) b)) product
      (λ b. at sums (k + b)) (λ b l.
      right (k + b) (omega arith)
      ∙ ap wrapped (sum_below-agrees (length down) _ _ (λ a _.
      ap (λ (z : ℤ). at down a *ℤ f (kernel_row kernel r a) z) (under_shifted c (length (factors kernel 0)) k b))))
