-- Means of nine adjacent values.
use Rattle.std.proofs.Common.{arith, ℕ, zero, suc, ℤ, ◌≡◌, ◌+◌, ◌<◌, pos, ◌+ℤ◌, ◌*ℤ◌, List, [], ◌∷◌, length, Bool, true, false, true≢false, sym, ap, subst, refl, ◌∙◌}
use Rattle.std.specs.Prelude.{◌&&◌, slice_index_or}
use Rattle.std.specs.Ordering.{int_eq}
use Rattle.std.proofs.lemmas.Bool.Decides.{Decides-int_eq}
use Rattle.std.proofs.lemmas.Int.{ints}
use Rattle.domains.specs.Arithmetic.{wrapped, floor_div}
use Rattle.job.specs.Formula.{stencil}
use Rattle.job.specs.Reads.{EachRead}
use Rattle.job.specs.Values.{sum_below, under, factors, kernel_row, kernel_column, weighted_sum}
use Rattle.job.specs.WellFormed.{IsKernel}
use Rattle.row_loops.specs.Rows.{EachPlace, at}
use Rattle.tile_eval.specs.Reading.{KernelWithin}
use Rattle.tile_eval.specs.inside.Stencil.{IsUnder}
use Rattle.tile_eval.proofs.Sums.{under_shifted}
use Rattle.tile_eval.proofs.Gathering.{reads_along}
use Rattle.narrow_kernels.specs.NarrowMeans.{column_sum, mean_of_nine}
use Rattle.linear_rows.specs.RowFormulas.{is_row_of_ones, is_kernel_of_ones}

abbrev ones : List ℤ
ones = pos 1 ∷ pos 1 ∷ pos 1 ∷ []

abbrev kernel_of_ones : List (List ℤ)
kernel_of_ones = ones ∷ ones ∷ ones ∷ []

-- ---- the kernel

all_three : (a b c : Bool) → (a && b && c) ≡ true → (a ≡ true) × (b ≡ true) × (c ≡ true)
all_three true true true h = (refl, refl, refl)
all_three true true false h = absurd (true≢false (sym h))
all_three true false c h = absurd (true≢false (sym h))
all_three false b c h = absurd (true≢false (sym h))

row_is : (xs : List ℤ) → is_row_of_ones xs ≡ true → xs ≡ ones
row_is (x ∷ y ∷ z ∷ []) h =
    let each = all_three (int_eq x (pos 1)) (int_eq y (pos 1)) (int_eq z (pos 1)) h in
    λ i. (Decides-int_eq x (pos 1)).0 each.0 i ∷ (Decides-int_eq y (pos 1)).0 each.1 i ∷ (Decides-int_eq z (pos 1)).0 each.2 i ∷ []
row_is [] h = absurd (true≢false (sym h))
row_is (x ∷ []) h = absurd (true≢false (sym h))
row_is (x ∷ y ∷ []) h = absurd (true≢false (sym h))
row_is (x ∷ y ∷ z ∷ w ∷ xs) h = absurd (true≢false (sym h))

kernel_is : (rows : List (List ℤ)) → is_kernel_of_ones rows ≡ true → rows ≡ kernel_of_ones
kernel_is (x ∷ y ∷ z ∷ []) h =
    let each = all_three (is_row_of_ones x) (is_row_of_ones y) (is_row_of_ones z) h in
    λ i. row_is x each.0 i ∷ row_is y each.1 i ∷ row_is z each.2 i ∷ []
kernel_is [] h = absurd (true≢false (sym h))
kernel_is (x ∷ []) h = absurd (true≢false (sym h))
kernel_is (x ∷ y ∷ []) h = absurd (true≢false (sym h))
kernel_is (x ∷ y ∷ z ∷ w ∷ rows) h = absurd (true≢false (sym h))

width : (a : ℕ) (d : List ℤ) → a < 3 → length (slice_index_or kernel_of_ones a d) ≡ 3
width zero d l = refl
width (suc zero) d l = refl
width (suc (suc zero)) d l = refl
width (suc (suc (suc a))) d l = absurd (omega arith)

ones_kernel : IsKernel kernel_of_ones
ones_kernel = record { height = (refl, omega arith); width = (refl, omega arith); one_width = λ a d l. width a d l }

module _ (rows : List (List ℤ)) (is : is_kernel_of_ones rows ≡ true) where
  pub is_kernel : IsKernel rows
  is_kernel = subst IsKernel (sym (kernel_is rows is)) ones_kernel

  pub has_row : (a : ℕ) → a < 3 → a < length rows
  has_row a l = subst (λ (rs : List (List ℤ)). a < length rs) (sym (kernel_is rows is)) l

  three_factors : (a : ℕ) → a < 3 → length (factors rows a) ≡ 3
  three_factors a l = subst (λ (rs : List (List ℤ)). length (factors rs a) ≡ 3) (sym (kernel_is rows is)) (width a [] l)

  -- all that is under the kernel along a row of points is read
  pub all_within : (has : ℕ → ℤ → ℤ → Type 0) (g n : ℕ) (r c : ℤ) → 0 < n
      → EachPlace n (λ k. EachRead has (stencil g 9 rows) r (c +ℤ pos k))
      → (a j : ℕ) → a < 3 → j < n + 2 → has g (kernel_row rows r a) (kernel_column rows c j)
  all_within has g n r c some h a j la lj =
      let within : KernelWithin (has g) rows r c n = reads_along has r c n (stencil g 9 rows) some ((omega arith, omega arith), is_kernel) h in
      within a j (has_row a la) (omega (arith, three_factors a la))

-- ---- the value

sum_of_nine : (p : ℕ → ℕ → ℤ)
    → (p 0 0 +ℤ p 1 0 +ℤ p 2 0) +ℤ (p 0 1 +ℤ p 1 1 +ℤ p 2 1) +ℤ (p 0 2 +ℤ p 1 2 +ℤ p 2 2)
    ≡ sum_below 3 (λ a. sum_below 3 (λ b. pos 1 *ℤ p a b))
sum_of_nine p = omega (arith, ints)

module _ (f : ℤ → ℤ → ℤ) (r c : ℤ) (a b d : List ℤ) (k : ℕ) where
  abbrev sum : ℤ
  sum = column_sum a b d k +ℤ column_sum a b d (k + 1) +ℤ column_sum a b d (k + 2)

  -- lines of numbers of 16 bits, with what is under a row of the kernel
  pub record IsLine (rows : List (List ℤ)) (row : ℕ) (line : List ℤ) : Type 0 where
    pub long : k + 2 < length line
    pub under_row : IsUnder rows f r c row line

  tap : (row j : ℕ) (line : List ℤ) → IsLine kernel_of_ones row line → j < 3 → at line (k + j) ≡ f (under r 3 row) (under (c +ℤ pos k) 3 j)
  tap row j line h l =
      let long = h.long in
      h.under_row (k + j) (omega arith) ∙ ap (f (under r 3 row)) (under_shifted c 3 k j)

  first_tap : (row : ℕ) (line : List ℤ) → IsLine kernel_of_ones row line → at line k ≡ f (under r 3 row) (under (c +ℤ pos k) 3 0)
  first_tap row line h =
      let same : k ≡ k + 0 = omega arith in
      ap (at line) same ∙ tap row 0 line h (omega arith)

  total : IsLine kernel_of_ones 0 a → IsLine kernel_of_ones 1 b → IsLine kernel_of_ones 2 d
      → sum ≡ weighted_sum kernel_of_ones f r (c +ℤ pos k)
  total x y z =
      (λ i. (first_tap 0 a x i +ℤ first_tap 1 b y i +ℤ first_tap 2 d z i)
      +ℤ (tap 0 1 a x (omega arith) i +ℤ tap 1 1 b y (omega arith) i +ℤ tap 2 1 d z (omega arith) i)
      +ℤ (tap 0 2 a x (omega arith) i +ℤ tap 1 2 b y (omega arith) i +ℤ tap 2 2 d z (omega arith) i))
      ∙ sum_of_nine (λ row j. f (under r 3 row) (under (c +ℤ pos k) 3 j))

  pub mean_is : (rows : List (List ℤ)) → is_kernel_of_ones rows ≡ true → IsLine rows 0 a → IsLine rows 1 b → IsLine rows 2 d
      → (y : ℤ) → y ≡ mean_of_nine a b d k → y ≡ floor_div (wrapped (weighted_sum rows f r (c +ℤ pos k))) (pos 9)
  mean_is rows is u v w y e =
      let same = kernel_is rows is in
      let exact : sum ≡ weighted_sum kernel_of_ones f r (c +ℤ pos k) =
      total (subst (λ (rs : List (List ℤ)). IsLine rs 0 a) same u) (subst (λ (rs : List (List ℤ)). IsLine rs 1 b) same v)
      (subst (λ (rs : List (List ℤ)). IsLine rs 2 d) same w) in
      e ∙ ap (λ (s : ℤ). floor_div (wrapped s) (pos 9)) (exact ∙ ap (λ (rs : List (List ℤ)). weighted_sum rs f r (c +ℤ pos k)) (sym same))
