use Rattle.std.proofs.Common.{◌≡◌, ◌<◌, ℕ}
use Rattle.plane_samples.specs.Samples.{sample_in}
use Rattle.job.proofs.sameness.has_same_input_samples.Given as goal

abbrev pub invariant-loop-k : goal.invariant-loop-k
invariant-loop-k l = (j : ℕ) → j < l.k → sample_in l.fn.a j ≡ sample_in l.fn.b j
