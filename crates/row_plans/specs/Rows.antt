-- Which rows of stages are kept.
use Rattle.std.specs.Prelude.{ℕ, ◌+◌, ◌*◌, ◌<◌, ◌≤◌, ◌≡◌, ℤ, pos, negsuc, ◌+ℤ◌, ◌≤ℤ◌, Some, List, fold, slice_get}
use Rattle.std.specs.Int.{int_gap}
use Rattle.domains.specs.Span.{Holds, len_of}
use Rattle.row_plans.specs.declared.row_state.RowState.{RowState}

-- the number of the row that is made next
abbrev pub next_row : RowState → ℤ
next_row s = s.area.rows.lo +ℤ pos s.next

-- row r is made, and is one of the last rows made, as many as are kept
pub record IsKeptRow (s : RowState) (r : ℤ) : Type 0 where
  pub within : Holds s.area.rows r
  pub begun : s.first ≤ int_gap s.area.rows.lo r
  pub made : int_gap s.area.rows.lo r < s.next
  pub kept : s.next ≤ int_gap s.area.rows.lo r + s.kept

-- the number lies within 1,048,576 of 0, as those of the rows of domains do
abbrev pub IsDomainRow : ℤ → Type 0
IsDomainRow r = (negsuc 1048575 ≤ℤ r) × (r ≤ℤ pos 1048576)

-- row r of stage g is kept
abbrev pub IsKeptAt : List RowState → ℕ → ℤ → Type 0
IsKeptAt states g r = (s : RowState) × (slice_get states g ≡ Some s) × IsKeptRow s r

-- the state once one row more is made
abbrev pub one_row_more : RowState → RowState
one_row_more s = record { area = s.area; kept = s.kept; first = s.first; next = s.next + 1 }

-- the most numbers that are kept of all stages together, for all rows of a picture
abbrev pub most_numbers : ℕ
most_numbers = 33554432

-- how many numbers are kept in all, if each row that may be kept is
abbrev pub numbers_kept : List RowState → ℕ
numbers_kept states = fold (λ n s. n + s.kept * len_of s.area.cols) 0 states
