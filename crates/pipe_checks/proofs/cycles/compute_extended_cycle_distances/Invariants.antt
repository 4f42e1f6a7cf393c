use Rattle.std.proofs.Common.{ℕ, ◌≡◌, Option, Some, length, slice_get}
use Rattle.pipe_checks.specs.inside.Search.{IsStepAt}
use Rattle.pipe_checks.proofs.cycles.compute_extended_cycle_distances.Given as goal

abbrev pub invariant-loop-stage : goal.invariant-loop-stage
invariant-loop-stage l =
    (length l.next.items ≡ l.stage) × ((s : ℕ) (d : Option ℕ) → slice_get l.next.items s ≡ Some d → IsStepAt l.graph l.far l.steps s d)
