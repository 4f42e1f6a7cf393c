use Rattle.std.proofs.Common.{ℕ, ◌<◌, ◌≡◌, Some, None, slice_get}
use Rattle.pipe_checks.specs.Graph.{links_at}
use Rattle.pipe_checks.specs.inside.Search.{SomeAt}
use Rattle.pipe_checks.proofs.cycles.can_extend_cycle_distances.Given as goal

abbrev pub invariant-loop-stage : goal.invariant-loop-stage
invariant-loop-stage l = (s : ℕ) → s < l.stage → slice_get l.far s ≡ Some None → SomeAt l.far (links_at l.graph s).reads l.steps → ⊥
