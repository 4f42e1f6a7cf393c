use Rattle.std.proofs.Common.{take}
use Rattle.std.specs.List.{flat_map}
use Rattle.write_buffer.specs.Passing.{Passes}
use Rattle.world_commands.specs.inside.Outcomes.{held_line}
use Rattle.world_commands.proofs.outcome_lines.put_world_node_lines.Given as goal

abbrev pub invariant-loop-node : goal.invariant-loop-node
invariant-loop-node g l =
    Passes (flat_map held_line (take l.node-index l.nodes)) l.initial.buffer l.buffer
    (g.W.Sink.contents l.initial.writer) (g.W.Sink.contents l.writer) (g.W.Sink.failures l.initial.writer) (g.W.Sink.failures l.writer)
