-- Rows of phases, one after the other.
use Rattle.std.specs.Prelude.{ℕ, zero, suc, ◌+◌, ◌-◌, ◌/◌, ◌%◌, ◌<◌, ◌≡◌, pos, ◌+ℤ◌, List, length, Some, slice_get}
use Rattle.domains.specs.Arithmetic.{floor_div, floor_rem}
use Rattle.job.specs.declared.stage.Function.{Function}
use Rattle.row_kernels.specs.declared.row_span.RowSpan.{RowSpan}

-- of n places so many lie whole periods after place o
abbrev pub places_from : ℕ → ℕ → ℕ → ℕ
places_from P n o = (n + (P - 1 - o)) / P

-- where the row of place o begins
abbrev pub row_start : ℕ → ℕ → ℕ → ℕ
row_start P n zero = 0
row_start P n (suc o) = row_start P n o + places_from P n o

-- where it has the number of place k
abbrev pub row_place : ℕ → ℕ → ℕ → ℕ
row_place P n k = row_start P n (k % P) + k / P

-- a part of the points of a row has those whose columns lie whole periods after that of place o, by the numbers of the columns, and a phase is theirs
pub record IsPart (phases : List Function) (points : RowSpan) (o : ℕ) (phase : Function) (part : RowSpan) : Type 0 where
  pub rest : ℕ
  pub there : slice_get phases rest ≡ Some phase
  pub column : pos rest ≡ floor_rem (points.col +ℤ pos o) (pos (length phases))
  pub row : part.row ≡ points.row
  pub col : part.col ≡ floor_div (points.col +ℤ pos o) (pos (length phases))
  pub len : part.len ≡ places_from (length phases) points.len o
  pub some : 0 < part.len
