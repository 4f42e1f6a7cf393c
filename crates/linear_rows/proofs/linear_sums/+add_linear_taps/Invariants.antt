use Rattle.std.proofs.Common.{length}
use Rattle.linear_rows.proofs.linear_sums.+add_linear_taps.Given as goal

abbrev pub decreases-add_linear_taps : goal.decreases-add_linear_taps
decreases-add_linear_taps g l = length l.taps.now
