use Rattle.row_loops.specs.Rows.{EachPlace, at}
use Rattle.narrow_kernels.specs.NarrowMeans.{column_sum, IsColumnSum}
use Rattle.narrow_kernels.proofs.narrow_means.write_narrow_column_sums.Given as goal

abbrev pub invariant-loop-k : goal.invariant-loop-k
invariant-loop-k l = EachPlace l.k (λ k. IsColumnSum (column_sum l.a l.b l.c k) (at l.ninths k) (at l.rests k))
