-- Kernels, as the sums that they stand for.
use Rattle.std.specs.Prelude.{ℕ, ℤ, pos, neg_ℤ, ◌≡◌, ◌+ℤ◌, ◌/◌, List, [], ◌∷◌, All, length}
use Rattle.domains.specs.Index.{Scale}
use Rattle.operators.specs.declared.operator.BinaryOp.TheVariants.{Add}
use Rattle.job.specs.Formula.{Formula, read, binary}
use Rattle.normal_formulas.specs.NormalSums.{product}

-- the index so far from the point
abbrev pub shift : ℤ → Scale
shift d = record { mul = pos 1; add = d; div = pos 1 }

-- where a row or a column of so many begins, the middle of which is at the point
abbrev pub first_of : ℕ → ℤ
first_of side = neg_ℤ (pos (side / 2))

-- factors times the reads of stage g in one row, from column b on, and what they are added to
abbrev pub row_over : Formula → ℕ → Scale → ℤ → List ℤ → Formula
row_over base g row b [] = base
row_over base g row b (x ∷ xs) = binary Add (product x (read g row (shift b))) (row_over base g row (b +ℤ pos 1) xs)

-- and the rows of a kernel, from row a on
abbrev pub rows_over : Formula → ℕ → ℤ → ℤ → List (List ℤ) → Formula
rows_over base g a b [] = base
rows_over base g a b (xs ∷ kernel) = row_over (rows_over base g (a +ℤ pos 1) b kernel) g (shift a) b xs

-- so many rows of so many factors
pub record HasSides (height width : ℕ) (kernel : List (List ℤ)) : Type 0 where
  pub rows : length kernel ≡ height
  pub columns : All (λ row. length row ≡ width) kernel
