-- Spans and areas of which others lie under an index or a kernel.
use Rattle.std.proofs.Common.{ℕ, zero, suc, ◌-◌, ◌/◌, ◌%◌, ◌<◌, ◌≡◌, ℤ, pos, ◌+ℤ◌, ◌-ℤ◌, ◌*ℤ◌, List, [], ◌∷◌, length, ap, subst, sym, ◌∙◌, arith}
use Rattle.std.specs.Prelude.{All, Option, Some, None, IfSome}
use Rattle.std.proofs.lemmas.Int.{ints}
use Rattle.std.proofs.lemmas.List.Elements.{All-head, All-tail}
use Rattle.domains.specs.Arithmetic.{floor_div}
use Rattle.domains.specs.Area.{HoldsPoint}
use Rattle.domains.specs.Index.{Scale, index_at}
use Rattle.domains.specs.Span.{Ends, Holds}
use Rattle.domains.specs.declared.area.Area.{Area}
use Rattle.job.specs.Values.{factors, kernel_column, kernel_row, under}
use Rattle.job.specs.WellFormed.{IsKernel}
use Rattle.normal_formulas.proofs.Laws.{divided_by_one}
use Rattle.normal_formulas.proofs.Products.{one_times}
use Rattle.part_stages.specs.inside.Spans.{IsUnderIndex, IsUnderIndices, IsUnderKernel, IsUnderSide}

-- ---- indices that are steps

step_at : (i : Scale) → i.mul ≡ pos 1 → i.div ≡ pos 1 → (v : ℤ) → index_at i v ≡ v +ℤ i.add
step_at i one undivided v =
    (λ k. floor_div (one k *ℤ v +ℤ i.add) (undivided k)) ∙ sym (divided_by_one (pos 1 *ℤ v +ℤ i.add))
    ∙ ap (λ (z : ℤ). z +ℤ i.add) (one_times v)

module _ (s t : Ends) (i : Scale) (one : i.mul ≡ pos 1) (undivided : i.div ≡ pos 1) (low : t.lo ≡ s.lo -ℤ i.add) (high : t.hi ≡ s.hi -ℤ i.add) where
  step_there : (v : ℤ) → Holds t v → Holds s (v +ℤ i.add)
  step_there v h = let x = h.0 in let y = h.1 in (omega (arith, ints), omega (arith, ints))

  step_back : (v : ℤ) → Holds s (v +ℤ i.add) → Holds t v
  step_back v h = let x = h.0 in let y = h.1 in (omega (arith, ints), omega (arith, ints))

  pub under_step : IsUnderIndex s i t
  under_step v = (
    λ h. subst (Holds s) (sym (step_at i one undivided v)) (step_there v h),
    λ h. step_back v (subst (Holds s) (step_at i one undivided v) h),
  )

-- ---- sides of kernels

module _ (s t : Ends) (n : ℕ) (odd : n % 2 ≡ 1) (low : t.lo ≡ s.lo +ℤ pos (n / 2)) (high : t.hi ≡ s.hi -ℤ pos (n / 2)) where
  side_there : (v : ℤ) → Holds t v → (k : ℕ) → k < n → Holds s (under v n k)
  side_there v h k below = let x = h.0 in let y = h.1 in (omega (arith, ints), omega (arith, ints))

  side_back : (v : ℤ) → ((k : ℕ) → k < n → Holds s (under v n k)) → Holds t v
  side_back v each =
      let first : 0 < n = omega arith in
      let last : n - 1 < n = omega arith in
      let x = (each 0 first).0 in
      let y = (each (n - 1) last).1 in
      (omega (arith, ints), omega (arith, ints))

  pub under_side : IsUnderSide s n t
  under_side v = (side_there v, side_back v)

-- ---- if there are any

pub found_step : (s : Ends) (i : Scale) (o : Option Ends) → i.mul ≡ pos 1 → i.div ≡ pos 1 → IfSome o (λ t. t.lo ≡ s.lo -ℤ i.add)
    → IfSome o (λ t. t.hi ≡ s.hi -ℤ i.add) → IfSome o (IsUnderIndex s i)
found_step s i None one undivided low high = tt
found_step s i (Some t) one undivided low high = under_step s t i one undivided low high

pub found_side : (s : Ends) (n : ℕ) (o : Option Ends) → n % 2 ≡ 1 → IfSome o (λ t. t.lo ≡ s.lo +ℤ pos (n / 2))
    → IfSome o (λ t. t.hi ≡ s.hi -ℤ pos (n / 2)) → IfSome o (IsUnderSide s n)
found_side s n None odd low high = tt
found_side s n (Some t) odd low high = under_side s t n odd low high

-- ---- areas

pub under_indices : (a b : Area) (i j : Scale) → IsUnderIndex a.rows i b.rows → IsUnderIndex a.cols j b.cols → IsUnderIndices a i j b
under_indices a b i j rows cols r c = (
  λ h. ((rows r).0 h.0, (cols c).0 h.1),
  λ h. ((rows r).1 h.0, (cols c).1 h.1),
)

-- the rows of a kernel have one width
row_width : (w : ℕ) (kernel : List (List ℤ)) → All (λ row. length row ≡ w) kernel → (k : ℕ) → k < length kernel → length (factors kernel k) ≡ w
row_width w [] all k below = absurd (omega (arith, below))
row_width w (row ∷ kernel) all zero below = All-head (λ r. length r ≡ w) row kernel all
row_width w (row ∷ kernel) all (suc k) below =
    row_width w kernel (All-tail (λ r. length r ≡ w) row kernel all) k (omega (arith, below))

odd_some : (n : ℕ) → n % 2 ≡ 1 → 0 < n
odd_some zero e = absurd (omega (arith, e))
odd_some (suc n) e = omega arith

module _ (a b : Area) (kernel : List (List ℤ)) (is : IsKernel kernel) (rows : IsUnderSide a.rows (length kernel) b.rows)
    (cols : IsUnderSide a.cols (length (factors kernel 0)) b.cols) where
  width : (k : ℕ) → k < length kernel → length (factors kernel k) ≡ length (factors kernel 0)
  width = row_width (length (factors kernel 0)) kernel is.one_width

  abbrev Under : ℤ → ℤ → Type 0
  Under r c =
      (k n : ℕ) → k < length kernel → n < length (factors kernel k) → HoldsPoint a (kernel_row kernel r k) (kernel_column kernel c n)

  kernel_there : (r c : ℤ) → HoldsPoint b r c → Under r c
  kernel_there r c h k n below beside = (
    (rows r).0 h.0 k below,
    (cols c).0 h.1 n (subst (λ (w : ℕ). n < w) (width k below) beside),
  )

  kernel_back : (r c : ℤ) → Under r c → HoldsPoint b r c
  kernel_back r c each =
      let first : 0 < length kernel = odd_some (length kernel) is.height.0 in
      let left : 0 < length (factors kernel 0) = odd_some (length (factors kernel 0)) is.width.0 in (
        (rows r).1 (λ k below. (each k 0 below (subst (λ (w : ℕ). 0 < w) (sym (width k below)) left)).0),
        (cols c).1 (λ n beside. (each 0 n first beside).1),
      )

  pub under_kernel : IsUnderKernel a kernel b
  under_kernel r c = (kernel_there r c, kernel_back r c)
