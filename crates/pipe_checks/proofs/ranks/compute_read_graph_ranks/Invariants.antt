use Rattle.pipe_checks.specs.inside.Search.{AreRanked, unknowns}
use Rattle.pipe_checks.proofs.ranks.compute_read_graph_ranks.Given as goal

abbrev pub invariant-loop-stage : goal.invariant-loop-stage
invariant-loop-stage l = AreRanked l.graph l.ranks.items

abbrev pub decreases-loop-stage : goal.decreases-loop-stage
decreases-loop-stage l = unknowns l.ranks.items
