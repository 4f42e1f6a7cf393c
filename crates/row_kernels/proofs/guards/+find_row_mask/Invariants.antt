use Rattle.std.proofs.Common.{length}
use Rattle.row_kernels.proofs.guards.+find_row_mask.Given as goal

abbrev pub decreases-find_row_mask : goal.decreases-find_row_mask
decreases-find_row_mask l = length l.tests.now
