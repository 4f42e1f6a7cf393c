-- The values of kernels as sums over their factors, one row after another.
use Rattle.std.proofs.Common.{arith, ℕ, zero, suc, ℤ, ◌≡◌, ◌<◌, pos, ◌+ℤ◌, ◌*ℤ◌, w32, List, [], ◌∷◌, length, ap, sym, refl, ◌∙◌}
use Rattle.std.specs.Prelude.{slice_index_or}
use Rattle.std.proofs.lemmas.Int.{ints, SFits-int_wrap, int_wrap_fits, int_wrap-add_left, int_wrap-add_right}
use Rattle.domains.specs.Arithmetic.{wrapped}
use Rattle.domains.specs.Index.{Scale, index_at}
use Rattle.job.specs.Formula.{Formula}
use Rattle.job.specs.Values.{Valuation, formula_value, sum_below, factors, under, kernel_row, kernel_column, weighted_sum}
use Rattle.normal_formulas.specs.NormalKernels.{shift, first_of, row_over, rows_over}
use Rattle.normal_formulas.proofs.Products.{one_times}
use Rattle.normal_formulas.proofs.Laws.{divided_by_one}

-- ---- whole numbers

nothing_more : (z : ℤ) → z +ℤ pos 0 ≡ z
nothing_more z = omega (arith, ints)

from_nothing : (z : ℤ) → z ≡ pos 0 +ℤ z
from_nothing z = omega (arith, ints)

next_place : (b : ℤ) (k : ℕ) → b +ℤ pos (suc k) ≡ b +ℤ pos 1 +ℤ pos k
next_place b k = omega (arith, ints)

grouped : (x y z : ℤ) → x +ℤ (y +ℤ z) ≡ x +ℤ y +ℤ z
grouped x y z = omega (arith, ints)

pub twice : (z : ℤ) → wrapped (wrapped z) ≡ wrapped z
twice z = int_wrap_fits w32 (wrapped z) (SFits-int_wrap w32 z)

-- the sum of one number more, and of a sum that is wrapped
more : (x v s own : ℤ) → wrapped v ≡ wrapped (s +ℤ own) → wrapped (wrapped (wrapped x +ℤ v)) ≡ wrapped (x +ℤ s +ℤ own)
more x v s own e =
    twice (wrapped x +ℤ v) ∙ int_wrap-add_left w32 x v ∙ sym (int_wrap-add_right w32 x v) ∙ ap (λ (z : ℤ). wrapped (x +ℤ z)) e
    ∙ int_wrap-add_right w32 x (s +ℤ own) ∙ ap wrapped (grouped x s own)

-- ---- sums, from the first number on

sum_first : (n : ℕ) (f : ℕ → ℤ) → sum_below (suc n) f ≡ f 0 +ℤ sum_below n (λ k. f (suc k))
sum_first zero f = turned (f 0)
  where
    turned : (z : ℤ) → pos 0 +ℤ z ≡ z +ℤ pos 0
    turned z = omega (arith, ints)
sum_first (suc n) f =
    ap (λ (z : ℤ). z +ℤ f (suc n)) (sum_first n f) ∙ sym (grouped (f 0) (sum_below n (λ k. f (suc k))) (f (suc n)))

-- ---- places

pub shifted : (d v : ℤ) → index_at (shift d) v ≡ v +ℤ d
shifted d v = sym (divided_by_one (pos 1 *ℤ v +ℤ d)) ∙ ap (λ (z : ℤ). z +ℤ d) (one_times v)

pub place_under : (v : ℤ) (n k : ℕ) → under v n k ≡ index_at (shift (first_of n +ℤ pos k)) v
place_under v n k = turned ∙ sym (shifted (first_of n +ℤ pos k) v)
  where
    turned : under v n k ≡ v +ℤ (first_of n +ℤ pos k)
    turned = omega (arith, ints)

-- ---- exact sums

module _ (env : Valuation) (r c : ℤ) (g : ℕ) where
  -- what a row reads, from column b on, times its factors
  abbrev pub row_sum : Scale → ℤ → List ℤ → ℤ
  row_sum row b [] = pos 0
  row_sum row b (x ∷ xs) = x *ℤ env g (index_at row r) (index_at (shift b) c) +ℤ row_sum row (b +ℤ pos 1) xs

  abbrev pub rows_sum : ℤ → ℤ → List (List ℤ) → ℤ
  rows_sum a b [] = pos 0
  rows_sum a b (xs ∷ kernel) = row_sum (shift a) b xs +ℤ rows_sum (a +ℤ pos 1) b kernel

  row_value : (base : Formula) (row : Scale) (b : ℤ) (xs : List ℤ)
      → wrapped (formula_value env (row_over base g row b xs) r c) ≡ wrapped (row_sum row b xs +ℤ formula_value env base r c)
  row_value base row b [] = ap wrapped (from_nothing (formula_value env base r c))
  row_value base row b (x ∷ xs) =
      more (x *ℤ env g (index_at row r) (index_at (shift b) c)) (formula_value env (row_over base g row (b +ℤ pos 1) xs) r c)
      (row_sum row (b +ℤ pos 1) xs) (formula_value env base r c) (row_value base row (b +ℤ pos 1) xs)

  pub rows_value : (base : Formula) (a b : ℤ) (kernel : List (List ℤ))
      → wrapped (formula_value env (rows_over base g a b kernel) r c) ≡ wrapped (rows_sum a b kernel +ℤ formula_value env base r c)
  rows_value base a b [] = ap wrapped (from_nothing (formula_value env base r c))
  rows_value base a b (xs ∷ kernel) =
      row_value (rows_over base g (a +ℤ pos 1) b kernel) (shift a) b xs
      ∙ sym (int_wrap-add_right w32 (row_sum (shift a) b xs) (formula_value env (rows_over base g (a +ℤ pos 1) b kernel) r c))
      ∙ ap (λ (z : ℤ). wrapped (row_sum (shift a) b xs +ℤ z)) (rows_value base (a +ℤ pos 1) b kernel)
      ∙ int_wrap-add_right w32 (row_sum (shift a) b xs) (rows_sum (a +ℤ pos 1) b kernel +ℤ formula_value env base r c)
      ∙ ap wrapped (grouped (row_sum (shift a) b xs) (rows_sum (a +ℤ pos 1) b kernel) (formula_value env base r c))

  -- the same sums, place by place
  row_listed : (h : ℕ → ℤ) (row : Scale) (b : ℤ) (xs : List ℤ)
      → ((k : ℕ) → k < length xs → h k ≡ env g (index_at row r) (index_at (shift (b +ℤ pos k)) c))
      → row_sum row b xs ≡ sum_below (length xs) (λ k. slice_index_or xs k (pos 0) *ℤ h k)
  row_listed h row b [] same = refl
  row_listed h row b (x ∷ xs) same =
      (λ i. x *ℤ sym first i +ℤ row_listed (λ k. h (suc k)) row (b +ℤ pos 1) xs others i)
      ∙ sym (sum_first (length xs) (λ k. slice_index_or (x ∷ xs) k (pos 0) *ℤ h k))
    where
      first : h 0 ≡ env g (index_at row r) (index_at (shift b) c)
      first = same 0 (omega arith) ∙ ap (λ (z : ℤ). env g (index_at row r) (index_at (shift z) c)) (nothing_more b)

      others : (k : ℕ) → k < length xs → h (suc k) ≡ env g (index_at row r) (index_at (shift (b +ℤ pos 1 +ℤ pos k)) c)
      others k l =
          same (suc k) (omega (arith, l)) ∙ ap (λ (z : ℤ). env g (index_at row r) (index_at (shift z) c)) (next_place b k)

  rows_listed : (h : ℕ → ℕ → ℤ) (a b : ℤ) (kernel : List (List ℤ))
      → ((i j : ℕ) → i < length kernel → j < length (factors kernel i)
      → h i j ≡ env g (index_at (shift (a +ℤ pos i)) r) (index_at (shift (b +ℤ pos j)) c))
      → rows_sum a b kernel
      ≡ sum_below (length kernel) (λ i. sum_below (length (factors kernel i)) (λ j. slice_index_or (factors kernel i) j (pos 0) *ℤ h i j))
  rows_listed h a b [] same = refl
  rows_listed h a b (xs ∷ kernel) same =
      (λ i. row_listed (h 0) (shift a) b xs first i +ℤ rows_listed (λ k. h (suc k)) (a +ℤ pos 1) b kernel others i)
      ∙ sym (sum_first (length kernel) (λ i. sum_below (length (factors (xs ∷ kernel) i)) (λ j.
      slice_index_or (factors (xs ∷ kernel) i) j (pos 0) *ℤ h i j)))
    where
      first : (j : ℕ) → j < length xs → h 0 j ≡ env g (index_at (shift a) r) (index_at (shift (b +ℤ pos j)) c)
      first j l =
          same 0 j (omega arith) l ∙ ap (λ (z : ℤ). env g (index_at (shift z) r) (index_at (shift (b +ℤ pos j)) c)) (nothing_more a)

      others : (i j : ℕ) → i < length kernel → j < length (factors kernel i)
          → h (suc i) j ≡ env g (index_at (shift (a +ℤ pos 1 +ℤ pos i)) r) (index_at (shift (b +ℤ pos j)) c)
      others i j li lj =
          same (suc i) j (omega (arith, li)) lj
          ∙ ap (λ (z : ℤ). env g (index_at (shift z) r) (index_at (shift (b +ℤ pos j)) c)) (next_place a i)

  pub kernel_sum : (kernel : List (List ℤ))
      → rows_sum (first_of (length kernel)) (first_of (length (factors kernel 0))) kernel ≡ weighted_sum kernel (env g) r c
  kernel_sum kernel =
      rows_listed (λ i j. env g (kernel_row kernel r i) (kernel_column kernel c j)) (first_of (length kernel))
      (first_of (length (factors kernel 0))) kernel
      (λ i j li lj. λ t. env g (place_under r (length kernel) i t) (place_under c (length (factors kernel 0)) j t))
