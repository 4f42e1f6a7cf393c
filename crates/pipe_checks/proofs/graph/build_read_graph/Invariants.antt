use Rattle.std.proofs.Common.{◌≡◌, map, take}
use Rattle.pipe_tree.specs.Tree.{declarations}
use Rattle.pipe_checks.specs.Accesses.{links_of}
use Rattle.pipe_checks.proofs.graph.build_read_graph.Given as goal

abbrev pub invariant-loop-stage : goal.invariant-loop-stage
invariant-loop-stage l = l.graph.items ≡ map (links_of (declarations l.items) l.stages) (take l.stage-index l.stages)
