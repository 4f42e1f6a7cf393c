use Rattle.std.proofs.Common.{arith}
use Rattle.write_buffer.proofs.PassingLaws.{breaks_more, passes_more, puts_err}
use Rattle.world_commands.specs.inside.Outcomes.{held_line}
use Rattle.world_commands.proofs.outcome_lines.put_world_node_lines.Goals as goal

pub returns-in_err-put_world_node_line : goal.returns-in_err-put_world_node_line
returns-in_err-put_world_node_line g c =
    puts_err c.from_residual.result _ _ _ _ _ _ _ c.from_residual.ensures.0
    (breaks_more held_line c.args.nodes.now c.loop-node.node-index _ _ _ _ _ _ _ _ _ (omega arith) c.loop-node.invariant
    (rw c.node-item.is at c.in_err-put_world_node_line.ensures))

pub loop-node-preserved : goal.loop-node-preserved
loop-node-preserved g c =
    passes_more held_line c.args.nodes.now c.loop-node.node-index _ _ _ _ _ _ _ _ _ _ (omega arith) c.loop-node.invariant
    (rw c.node-item.is at c.in_ok-put_world_node_line.ensures)
