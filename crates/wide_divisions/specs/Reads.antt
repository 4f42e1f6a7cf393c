-- Reads that take adjacent samples at adjacent points.
use Rattle.std.specs.Prelude.{ℕ, ℤ, ◌≡◌, ◌+ℤ◌, pos, List, length}
use Rattle.domains.specs.Index.{index_at}
use Rattle.job.specs.Formula.{Formula, read}
use Rattle.job.specs.Values.{Valuation, formula_value}
use Rattle.row_kernels.specs.declared.row_span.RowSpan.{RowSpan}
use Rattle.row_loops.specs.Rows.{EachPlace, at}
use Rattle.wide_divisions.specs.declared.reads.DivisionStepRead.{DivisionStepRead}

abbrev pub read_formula : DivisionStepRead → Formula
read_formula x = read x.stage x.row.now x.col.now

-- the index of the column only adds
abbrev pub IsAdjacentRead : DivisionStepRead → Type 0
IsAdjacentRead x = (x.col.now.mul ≡ pos 1) × (x.col.now.div ≡ pos 1)

-- the sample that a read takes at each of the points is available
abbrev pub IsReadAlong : (ℕ → ℤ → ℤ → Type 0) → DivisionStepRead → RowSpan → Type 0
IsReadAlong has x points = EachPlace points.len (λ k. has x.stage (index_at x.row.now points.row) (index_at x.col.now (points.col +ℤ pos k)))

-- a line has these samples
abbrev pub IsLineOf : Valuation → DivisionStepRead → RowSpan → List ℤ → Type 0
IsLineOf env x points line =
    (length line ≡ points.len)
    × EachPlace points.len (λ k. at line k ≡ formula_value env (read_formula x) points.row (points.col +ℤ pos k))
