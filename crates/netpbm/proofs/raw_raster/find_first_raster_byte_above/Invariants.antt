-- No byte so far is above the greatest sample.
use Rattle.std.proofs.Common.{ℕ, ◌<◌, ◌≤◌, get_or}
use Rattle.netpbm.proofs.raw_raster.find_first_raster_byte_above.Given as goal

abbrev pub invariant-loop-i : goal.invariant-loop-i
invariant-loop-i l = (k : ℕ) → k < l.i → get_or l.raster k 0 ≤ l.max
