use Rattle.std.proofs.Common.{◌≡◌}
use Rattle.std.specs.List.{flat_map}
use Rattle.world_commands.specs.WorldLines.{node_lines}
use Rattle.world_commands.specs.inside.Outcomes.{held_line}
use Rattle.world_commands.proofs.holding.collect_world_node_reports.Given as goal

abbrev pub invariant-loop-node : goal.invariant-loop-node
invariant-loop-node l = flat_map held_line l.held.items ≡ node_lines l.node l.world.network
