use Rattle.std.proofs.Common.{ℕ, ◌<◌, ◌≡◌, Some, get_or, slice_get}
use Rattle.pipe_checks.proofs.cycles.has_read_at_cycle_distance.Given as goal

abbrev pub invariant-loop-stage : goal.invariant-loop-stage
invariant-loop-stage l = (k : ℕ) → k < l.stage-index → slice_get l.far (get_or l.stage-items k 0) ≡ Some (Some l.steps) → ⊥
