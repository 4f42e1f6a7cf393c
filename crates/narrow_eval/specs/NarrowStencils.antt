-- What rows of kernels give at points.
use Rattle.std.specs.Prelude.{ℕ, ◌+◌, ℤ, pos, ◌*ℤ◌, List, length, slice_index_or}
use Rattle.job.specs.Values.{sum_below, factors, kernel_row, kernel_column}
use Rattle.row_loops.specs.Rows.{at}

-- the first n factors times the numbers of a line from place k on, added up exactly
abbrev pub line_total : ℕ → List ℤ → List ℤ → ℕ → ℤ
line_total n factors line k = sum_below n (λ b. at factors b *ℤ at line (k + b))

-- what the first n rows of a kernel give at a point
abbrev pub rows_below : ℕ → List (List ℤ) → (ℤ → ℤ → ℤ) → ℤ → ℤ → ℤ
rows_below n kernel f r c =
    sum_below n (λ a. sum_below (length (factors kernel a)) (λ b.
    slice_index_or (factors kernel a) b (pos 0) *ℤ f (kernel_row kernel r a) (kernel_column kernel c b)))
