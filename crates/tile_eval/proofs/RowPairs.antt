-- Rows of kernels with the same factors: the samples under them are added first.
use Rattle.std.proofs.Common.{arith, ℕ, suc, ℤ, ◌≡◌, ◌+◌, ◌<◌, ◌≤◌, ◌-◌, pos, ◌+ℤ◌, ◌*ℤ◌, w32, List, length, ◌∙◌, ap, sym}
use Rattle.std.proofs.lemmas.Int.{ints, int_wrap-add_right, int_wrap-mul_right}
use Rattle.domains.specs.Arithmetic.{wrapped}
use Rattle.job.specs.Values.{sum_below, factors, kernel_row, kernel_column}
use Rattle.job.proofs.Agreeing.{sum_below-agrees}
use Rattle.row_loops.specs.Rows.{at}
use Rattle.stencil_kernels.specs.Stencil.{tap_sum}
use Rattle.stencil_kernels.proofs.Pieces.{sum_below_split}
use Rattle.stencil_kernels.proofs.ProductLaws.{over_sum}
use Rattle.stencil_kernels.proofs.Separating.{both, same_wrapped}
use Rattle.stencil_kernels.proofs.Taps.{zero_wrapped}
use Rattle.tile_eval.specs.inside.Stencil.{row_sum, IsUnderTwoRows}
use Rattle.tile_eval.proofs.Sums.{under_shifted}

-- ---- two rows

module _ (kernel : List (List ℤ)) (f : ℤ → ℤ → ℤ) (r c : ℤ) (a b k : ℕ) (stencil : List ℤ) where
  -- the sample under a place of a row of the kernel
  abbrev sample : ℕ → ℕ → ℤ
  sample row j = f (kernel_row kernel r row) (kernel_column kernel (c +ℤ pos k) j)

  abbrev sum_of_row : ℕ → ℤ
  sum_of_row row = sum_below (length stencil) (λ j. at stencil j *ℤ sample row j)

  two_rows : (line : List ℤ) → IsUnderTwoRows kernel f r c a b line → k + length stencil ≤ length line
      → wrapped (tap_sum stencil line k) ≡ wrapped (sum_of_row a +ℤ sum_of_row b)
  two_rows line under long =
      same_wrapped (length stencil) _ _ (λ j l.
      (λ i. wrapped (at stencil j *ℤ under (k + j) (omega arith) i))
      ∙ int_wrap-mul_right w32 (at stencil j) (f (kernel_row kernel r a) (kernel_column kernel c (k + j)) +ℤ f (kernel_row kernel r b) (kernel_column kernel c (k + j)))
      ∙ ap (λ (v : ℤ). wrapped (at stencil j *ℤ (f (kernel_row kernel r a) v +ℤ f (kernel_row kernel r b) v)))
      (under_shifted c (length (factors kernel 0)) k j))
      ∙ ap wrapped
      (sum_below-agrees (length stencil) _ _ (λ j l. over_sum (at stencil j) (sample a j) (sample b j))
      ∙ sym (both (length stencil) (λ j. at stencil j *ℤ sample a j) (λ j. at stencil j *ℤ sample b j)))

  as_row : (row : ℕ) → stencil ≡ factors kernel row → sum_of_row row ≡ row_sum kernel f r (c +ℤ pos k) row
  as_row row is = ap (λ (fs : List ℤ). sum_below (length fs) (λ j. at fs j *ℤ sample row j)) is

  -- t is what adding the factors times the sums of the samples leaves
  pub two_rows_more : (n : ℕ) (line : List ℤ) (s t : ℤ) → stencil ≡ factors kernel a → stencil ≡ factors kernel b
      → IsUnderTwoRows kernel f r c a b line → length line ≡ n + length stencil - 1 → k < n
      → t ≡ wrapped (s +ℤ tap_sum stencil line k)
      → t ≡ wrapped (s +ℤ row_sum kernel f r (c +ℤ pos k) a +ℤ row_sum kernel f r (c +ℤ pos k) b)
  two_rows_more n line s t first second under len lt h =
      let sums = two_rows line under (omega arith) in
      h
      ∙ sym (int_wrap-add_right w32 s (tap_sum stencil line k))
      ∙ ap (λ (z : ℤ). wrapped (s +ℤ z)) sums
      ∙ int_wrap-add_right w32 s (sum_of_row a +ℤ sum_of_row b)
      ∙ (λ i. wrapped (s +ℤ (as_row a first i +ℤ as_row b second i)))
      ∙ ap wrapped (apart s (row_sum kernel f r (c +ℤ pos k) a) (row_sum kernel f r (c +ℤ pos k) b))
    where
      apart : (s u v : ℤ) → s +ℤ (u +ℤ v) ≡ s +ℤ u +ℤ v
      apart s u v = omega (arith, ints)

-- ---- from both ends

-- row says what each row of h adds: the first a rows are added, and those from row number end on
module _ (row : ℕ → ℤ) (h : ℕ) where
  abbrev pub added : ℕ → ℕ → ℤ
  added a end = sum_below a row +ℤ sum_below (h - end) (λ j. row (end + j))

  pub no_rows : pos 0 ≡ wrapped (added 0 h)
  no_rows =
      let none : 0 ≡ h - h = omega arith in
      zero_wrapped ∙ ap (λ (n : ℕ). wrapped (pos 0 +ℤ sum_below n (λ j. row (h + j)))) none

  pub first_added : (a end : ℕ) (t : ℤ) → t ≡ wrapped (added a end +ℤ row a) → t ≡ wrapped (added (suc a) end)
  first_added a end t e =
      e ∙ ap wrapped (turned (sum_below a row) (sum_below (h - end) (λ j. row (end + j))) (row a))
    where
      turned : (x y z : ℤ) → x +ℤ y +ℤ z ≡ x +ℤ z +ℤ y
      turned x y z = omega (arith, ints)

  last_rows : (last m : ℕ) → sum_below (suc m) (λ j. row (last + j)) ≡ row last +ℤ sum_below m (λ j. row (suc last + j))
  last_rows last m =
      let one : suc m ≡ 1 + m = omega arith in
      let here : last + 0 ≡ last = omega arith in
      let next : (j : ℕ) → last + (1 + j) ≡ suc last + j = λ j. omega arith in
      ap (λ (n : ℕ). sum_below n (λ j. row (last + j))) one
      ∙ sum_below_split 1 m (λ j. row (last + j))
      ∙ (λ i. pos 0 +ℤ row (here i) +ℤ sum_below m (λ j. row (next j i)))
      ∙ alone (row last) (sum_below m (λ j. row (suc last + j)))
    where
      alone : (x y : ℤ) → pos 0 +ℤ x +ℤ y ≡ x +ℤ y
      alone x y = omega (arith, ints)

  pub both_added : (a last end : ℕ) (t : ℤ) → end ≡ suc last → end ≤ h
      → t ≡ wrapped (added a end +ℤ row a +ℤ row last) → t ≡ wrapped (added (suc a) last)
  both_added a last end t is within e =
      let more : suc (h - suc last) ≡ h - last = omega arith in
      e ∙ (λ i. wrapped (added a (is i) +ℤ row a +ℤ row last))
      ∙ ap wrapped (turned (sum_below a row) (sum_below (h - suc last) (λ j. row (suc last + j))) (row a) (row last))
      ∙ (λ i. wrapped (sum_below a row +ℤ row a +ℤ sym (last_rows last (h - suc last)) i))
      ∙ ap (λ (n : ℕ). wrapped (sum_below (suc a) row +ℤ sum_below n (λ j. row (last + j)))) more
    where
      turned : (x y u v : ℤ) → x +ℤ y +ℤ u +ℤ v ≡ x +ℤ u +ℤ (v +ℤ y)
      turned x y u v = omega (arith, ints)

  pub all_added : (a end : ℕ) (t : ℤ) → a ≡ end → end ≤ h → t ≡ wrapped (added a end) → t ≡ wrapped (sum_below h row)
  all_added a end t is within e =
      let whole : end + (h - end) ≡ h = omega arith in
      e ∙ (λ i. wrapped (sum_below (is i) row +ℤ sum_below (h - end) (λ j. row (end + j))))
      ∙ ap wrapped (sym (sum_below_split end (h - end) row) ∙ ap (λ (n : ℕ). sum_below n row) whole)
