-- The columns that a dividing index takes along a row.
use Rattle.std.specs.Prelude.{ℕ, ◌+◌, ◌*◌, ◌/◌}
use Rattle.row_kernels.specs.declared.divided_columns.DividedColumns.{DividedColumns}

-- how far the column at point k lies after the first: the division continues from the remainder at the first
abbrev pub compute_column_offset_at_place : DividedColumns → ℕ → ℕ
compute_column_offset_at_place columns k = (columns.left + k * columns.step) / columns.reciprocal.divisor
