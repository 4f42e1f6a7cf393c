-- What rows of kernels give at points.
use Rattle.std.specs.Prelude.{ℕ, ◌≡◌, ℤ, ◌+ℤ◌, ◌*ℤ◌, List, length}
use Rattle.domains.specs.Arithmetic.{wrapped}
use Rattle.job.specs.Values.{sum_below, factors, kernel_row, kernel_column}
use Rattle.row_loops.specs.Rows.{EachPlace, at}

-- what row a of a kernel adds at a point
abbrev pub row_sum : List (List ℤ) → (ℤ → ℤ → ℤ) → ℤ → ℤ → ℕ → ℤ
row_sum kernel f r c a =
    sum_below (length (factors kernel a)) (λ b. at (factors kernel a) b *ℤ f (kernel_row kernel r a) (kernel_column kernel c b))

-- the samples in column j under a kernel, each times the factor of its row, added up
abbrev pub column_sum : List (List ℤ) → (ℤ → ℤ → ℤ) → ℤ → ℤ → List ℤ → ℕ → ℤ
column_sum kernel f r c down j = sum_below (length down) (λ a. at down a *ℤ f (kernel_row kernel r a) (kernel_column kernel c j))

-- the numbers of the line are the samples under row a of a kernel about the points of row r from column c on
abbrev pub IsUnder : List (List ℤ) → (ℤ → ℤ → ℤ) → ℤ → ℤ → ℕ → List ℤ → Type 0
IsUnder kernel f r c a line = EachPlace (length line) (λ j. at line j ≡ f (kernel_row kernel r a) (kernel_column kernel c j))

-- the numbers of the line are sums of those under two rows of a kernel
abbrev pub IsUnderTwoRows : List (List ℤ) → (ℤ → ℤ → ℤ) → ℤ → ℤ → ℕ → ℕ → List ℤ → Type 0
IsUnderTwoRows kernel f r c a b line =
    EachPlace (length line) (λ j. at line j
    ≡ wrapped (f (kernel_row kernel r a) (kernel_column kernel c j) +ℤ f (kernel_row kernel r b) (kernel_column kernel c j)))
