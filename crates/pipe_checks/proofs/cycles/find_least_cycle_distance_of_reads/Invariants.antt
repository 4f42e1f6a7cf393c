use Rattle.std.proofs.Common.{ℕ, ◌<◌, ◌≤◌, ◌≡◌, Some, IfSome, IfNone, get_or, slice_get}
use Rattle.pipe_checks.specs.inside.Search.{SomeAt}
use Rattle.pipe_checks.proofs.cycles.find_least_cycle_distance_of_reads.Given as goal

abbrev pub invariant-loop-stage : goal.invariant-loop-stage
invariant-loop-stage l =
    IfSome l.least (SomeAt l.far l.stage-items)
    × IfSome l.least (λ d. (k n : ℕ) → k < l.stage-index → slice_get l.far (get_or l.stage-items k 0) ≡ Some (Some n) → d ≤ n)
    × IfNone l.least ((k n : ℕ) → k < l.stage-index → slice_get l.far (get_or l.stage-items k 0) ≡ Some (Some n) → ⊥)
