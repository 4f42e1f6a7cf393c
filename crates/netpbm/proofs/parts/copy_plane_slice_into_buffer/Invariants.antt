-- What is copied so far.
use Rattle.std.proofs.Common.{◌≡◌, ℕ, ◌+◌, ◌<◌, get_or}
use Rattle.plane_samples.specs.Samples.{sample_in}
use Rattle.netpbm.proofs.parts.copy_plane_slice_into_buffer.Given as goal

abbrev pub invariant-loop-k : goal.invariant-loop-k
invariant-loop-k l = (j : ℕ) → j < l.k → get_or l.out j 0 ≡ sample_in l.samples (l.start + j)
