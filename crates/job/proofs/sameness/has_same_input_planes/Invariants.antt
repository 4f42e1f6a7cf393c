use Rattle.std.proofs.Common.{◌≡◌, ◌<◌, ℕ, [], slice_index_or}
use Rattle.job.proofs.sameness.has_same_input_planes.Given as goal

abbrev pub invariant-loop-plane : goal.invariant-loop-plane
invariant-loop-plane l = (j : ℕ) → j < l.plane → slice_index_or l.fn.a.planes j [] ≡ slice_index_or l.fn.b.planes j []
