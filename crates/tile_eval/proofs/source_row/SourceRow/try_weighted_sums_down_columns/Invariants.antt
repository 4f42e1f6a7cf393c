use Rattle.std.proofs.Common.{◌≡◌, ◌*ℤ◌, length}
use Rattle.domains.specs.Arithmetic.{wrapped}
use Rattle.job.specs.Values.{sum_below, kernel_row, kernel_column}
use Rattle.row_loops.specs.Rows.{EachPlace, at}
use Rattle.tile_eval.proofs.source_row.SourceRow.try_weighted_sums_down_columns.Given as goal

abbrev pub invariant-loop-a : goal.invariant-loop-a
invariant-loop-a g l =
    EachPlace (length l.sums) (λ j. at l.sums j ≡ wrapped (sum_below l.a (λ a. at l.fn.down a
    *ℤ g.S.RowSource.samples l.fn.self.source.now l.fn.stage (kernel_row l.fn.kernel l.fn.self.points.row a)
    (kernel_column l.fn.kernel l.fn.self.points.col j))))
