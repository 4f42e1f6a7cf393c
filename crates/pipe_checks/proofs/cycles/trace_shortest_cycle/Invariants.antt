use Rattle.std.proofs.Common.{◌<◌, length}
use Rattle.pipe_checks.proofs.Closing.{IsUnderWay, IsAhead}
use Rattle.pipe_checks.proofs.cycles.trace_shortest_cycle.Given as goal

abbrev pub invariant-loop-steps : goal.invariant-loop-steps
invariant-loop-steps l =
    IsUnderWay l.graph l.start l.far l.left l.way.items l.at l.steps × IsAhead l.graph l.start l.far l.at l.steps × (l.at < length l.graph)

abbrev pub decreases-loop-steps : goal.decreases-loop-steps
decreases-loop-steps l = l.steps
