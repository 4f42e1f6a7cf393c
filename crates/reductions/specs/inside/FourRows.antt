-- Rows of values of which each column is joined first.
use Rattle.std.specs.Prelude.{ℕ, ℤ, pos, ◌+◌, ◌+ℤ◌, ◌≡◌, List, map, slice_index}
use Rattle.domains.specs.Span.{len_of}
use Rattle.domains.specs.declared.area.Area.{Area}
use Rattle.operators.specs.declared.operator.ReductionOp.{ReductionOp}
use Rattle.job.specs.Formula.{Formula}
use Rattle.job.specs.Totals.{joined}
use Rattle.job.specs.Values.{Valuation}
use Rattle.reductions.specs.Bins.{joined_bins}
use Rattle.reductions.specs.inside.Gathering.{values_along}

-- what four values join to
abbrev pub four_joined : ReductionOp → ℤ → ℤ → ℤ → ℤ → ℤ
four_joined way a b c d = joined way (joined way (joined way a b) c) d

-- and the bytes of column k of four rows
abbrev pub column_joined : ReductionOp → List ℕ → List ℕ → List ℕ → List ℕ → ℕ → ℤ
column_joined way a b c d k = four_joined way (pos (slice_index a k)) (pos (slice_index b k)) (pos (slice_index c k)) (pos (slice_index d k))

-- and the values of each column of four rows
abbrev pub four_rows_joined : ReductionOp → List ℤ → List ℤ → List ℤ → List ℤ → List ℤ
four_rows_joined way a b c d = joined_bins way (joined_bins way (joined_bins way a b) c) d

-- the values of a formula in a row of an area, counted from 0, where env has the values of the stages
abbrev pub values_of_row : Valuation → Formula → Area → ℕ → List ℤ
values_of_row env f area row = values_along env f (area.rows.lo +ℤ pos row) area.cols.lo (len_of area.cols)

-- bytes are the values of a formula in four rows of an area, from this one on
pub record HasBytesOfRows (env : Valuation) (f : Formula) (area : Area) (row : ℕ) (a b c d : List ℕ) : Type 0 where
  pub first : map pos a ≡ values_of_row env f area row
  pub second : map pos b ≡ values_of_row env f area (row + 1)
  pub third : map pos c ≡ values_of_row env f area (row + 2)
  pub fourth : map pos d ≡ values_of_row env f area (row + 3)
