-- The columns that an index takes along a row.
use Rattle.std.specs.Prelude.{ℕ, ℤ, pos, ◌+ℤ◌}
use Rattle.std.specs.Int.{int_gap}
use Rattle.domains.specs.Index.{Scale, index_at}

-- how far the column that an index takes k columns after column c lies after the one that it takes there
abbrev pub column_gap : Scale → ℤ → ℕ → ℕ
column_gap x c k = int_gap (index_at x c) (index_at x (c +ℤ pos k))
