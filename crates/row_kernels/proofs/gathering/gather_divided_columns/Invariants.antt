use Rattle.std.proofs.Common.{◌≡◌, ◌+◌}
use Rattle.row_kernels.specs.inside.Divided.{compute_column_offset_at_place}
use Rattle.row_loops.specs.Rows.{EachPlace, at}
use Rattle.row_kernels.proofs.gathering.gather_divided_columns.Given as goal

abbrev pub invariant-loop-k : goal.invariant-loop-k
invariant-loop-k g l = EachPlace l.k (λ k. at l.out k ≡ g.V.RowNumbers.number l.numbers (l.place + compute_column_offset_at_place l.columns k))
