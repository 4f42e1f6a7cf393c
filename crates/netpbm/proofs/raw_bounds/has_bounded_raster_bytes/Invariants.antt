-- No byte so far is above the greatest.
use Rattle.std.proofs.Common.{ℕ, ◌<◌, ◌≤◌, get_or}
use Rattle.netpbm.proofs.raw_bounds.has_bounded_raster_bytes.Given as goal

abbrev pub invariant-loop-byte : goal.invariant-loop-byte
invariant-loop-byte l = (k : ℕ) → k < l.byte-index → get_or l.raster k 0 ≤ l.greatest
