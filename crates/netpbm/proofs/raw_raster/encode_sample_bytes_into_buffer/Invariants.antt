-- What is written so far.
use Rattle.std.proofs.Common.{◌≡◌, ℕ, ◌<◌, get_or}
use Rattle.netpbm.proofs.raw_raster.encode_sample_bytes_into_buffer.Given as goal

abbrev pub invariant-loop-i : goal.invariant-loop-i
invariant-loop-i l = (k : ℕ) → k < l.i → get_or l.out k 0 ≡ get_or l.samples k 0
