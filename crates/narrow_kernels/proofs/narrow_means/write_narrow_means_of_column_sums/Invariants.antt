use Rattle.std.proofs.Common.{◌≡◌}
use Rattle.row_loops.specs.Rows.{EachPlace, at}
use Rattle.narrow_kernels.specs.NarrowMeans.{mean_of_column_parts}
use Rattle.narrow_kernels.proofs.narrow_means.write_narrow_means_of_column_sums.Given as goal

abbrev pub invariant-loop-k : goal.invariant-loop-k
invariant-loop-k l = EachPlace l.k (λ k. at l.out k ≡ mean_of_column_parts l.ninths l.rests k)
