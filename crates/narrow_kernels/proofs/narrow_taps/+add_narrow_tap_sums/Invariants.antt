use Rattle.std.proofs.Common.{length}
use Rattle.narrow_kernels.proofs.narrow_taps.+add_narrow_tap_sums.Given as goal

abbrev pub decreases-add_narrow_tap_sums : goal.decreases-add_narrow_tap_sums
decreases-add_narrow_tap_sums l = length l.taps.now
