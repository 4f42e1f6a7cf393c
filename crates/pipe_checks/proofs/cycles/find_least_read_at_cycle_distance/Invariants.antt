use Rattle.std.proofs.Common.{ℕ, ◌<◌, ◌≤◌, ◌≡◌, Some, IfSome, IfNone, get_or, slice_get}
use Rattle.std.specs.Prelude.{Contains}
use Rattle.pipe_checks.proofs.cycles.find_least_read_at_cycle_distance.Given as goal

abbrev pub invariant-loop-stage : goal.invariant-loop-stage
invariant-loop-stage l =
    IfSome l.least (λ t. Contains l.stage-items t × (slice_get l.far t ≡ Some (Some l.steps)))
    × IfSome l.least
    (λ t. (k : ℕ) → k < l.stage-index → slice_get l.far (get_or l.stage-items k 0) ≡ Some (Some l.steps) → t ≤ get_or l.stage-items k 0)
    × IfNone l.least ((k : ℕ) → k < l.stage-index → slice_get l.far (get_or l.stage-items k 0) ≡ Some (Some l.steps) → ⊥)
