use Rattle.fact_lines.specs.Written.{written}
use Rattle.write_buffer.proofs.PassingLaws.{breaks_front, puts_err, puts_then}
use Rattle.world_commands.specs.WorldLines.{node_head}
use Rattle.world_commands.proofs.outcome_lines.put_world_node_line.Goals as goal

pub returns-in_err-put_world_node_line_head : goal.returns-in_err-put_world_node_line_head
returns-in_err-put_world_node_line_head g c =
    let node = c.args.node.now in
    puts_err c.from_residual.result _ _ _ _ _ _ _ c.from_residual.ensures.0
    (breaks_front (node_head node.node) (written node.retired.items node.facts.items) _ _ _ _ _ c.in_err-put_world_node_line_head.ensures)

pub returns : goal.returns
returns g c =
    let node = c.args.node.now in
    puts_then c.put_fact_file_line.result (node_head node.node) (written node.retired.items node.facts.items) _ _ _ _ _ _ _ _ _ c.in_ok-put_world_node_line_head.ensures
    (rw (c.deref.ensures.value, c.deref-2.ensures.value) at c.put_fact_file_line.ensures)
