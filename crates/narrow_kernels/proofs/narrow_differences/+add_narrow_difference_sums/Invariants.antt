use Rattle.std.proofs.Common.{length}
use Rattle.narrow_kernels.proofs.narrow_differences.+add_narrow_difference_sums.Given as goal

abbrev pub decreases-add_narrow_difference_sums : goal.decreases-add_narrow_difference_sums
decreases-add_narrow_difference_sums l = length l.differences.now
