use Rattle.std.proofs.Common.{◌+◌, ◌≤◌, length}
use Rattle.pipe_checks.specs.inside.Search.{unknowns}
use Rattle.pipe_checks.proofs.Distances.{KnownUpTo}
use Rattle.pipe_checks.proofs.cycles.compute_cycle_distances_to_stage.Given as goal

abbrev pub invariant-loop-alloc : goal.invariant-loop-alloc
invariant-loop-alloc l = KnownUpTo l.graph l.goal l.steps l.far.items × (l.steps + unknowns l.far.items + 1 ≤ length l.graph)

abbrev pub decreases-loop-alloc : goal.decreases-loop-alloc
decreases-loop-alloc l = unknowns l.far.items
