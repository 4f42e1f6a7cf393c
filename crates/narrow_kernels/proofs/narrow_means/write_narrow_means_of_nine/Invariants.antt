-- The means of all blocks before are written.
use Rattle.std.proofs.Common.{ℕ, ◌≡◌, ◌*◌, ◌<◌, length}
use Rattle.row_loops.specs.Rows.{at}
use Rattle.narrow_kernels.specs.NarrowMeans.{mean_of_nine}
use Rattle.narrow_kernels.proofs.narrow_means.write_narrow_means_of_nine.Given as goal

abbrev pub invariant-loop-block : goal.invariant-loop-block
invariant-loop-block l = (k : ℕ) → k < 512 * l.block → k < length l.out → at l.out k ≡ mean_of_nine l.a l.b l.c k
