use Rattle.std.proofs.Common.{[], Err, Ok}
use Rattle.std.specs.List.{flat_map}
use Rattle.write_buffer.proofs.PassingLaws.{breaks_front, puts_then}
use Rattle.world_commands.specs.WorldLines.{count_line}
use Rattle.world_commands.specs.inside.Outcomes.{held_line}
use Rattle.world_commands.proofs.Flushed.{broken, flushed}
use Rattle.world_commands.proofs.outcome_lines.write_event_counts_and_world_node_lines.Goals as goal

pub returns-in_err-put_world_outcome_event_counts : goal.returns-in_err-put_world_outcome_event_counts
returns-in_err-put_world_outcome_event_counts g c =
    let outcome = c.args.outcome.now in
    broken c.from_residual.result _ _ _ _ _ _ c.from_residual.ensures.0 c.new-buffer.ensures
    (breaks_front (count_line outcome.done outcome.refused) (flat_map held_line outcome.nodes.items) _ _ _ _ _ c.in_err-put_world_outcome_event_counts.ensures)

pub returns-in_err-put_world_node_lines : goal.returns-in_err-put_world_node_lines
returns-in_err-put_world_node_lines g c =
    let outcome = c.args.outcome.now in
    let failed = c.from_residual-in_err-put_world_node_lines in
    broken failed.result _ _ _ _ _ _ failed.ensures.0 c.new-buffer.ensures
    (puts_then {X = Unit {0}} (Err (tt {0})) (count_line outcome.done outcome.refused) (flat_map held_line outcome.nodes.items) _ _ [] _ _ _ _
    _ _ c.in_ok-put_world_outcome_event_counts.ensures (rw c.deref.ensures.value at c.in_err-put_world_node_lines.ensures))

pub returns : goal.returns
returns g c =
    let outcome = c.args.outcome.now in
    flushed c.flush.result _ _ _ _ _ _ _ _ _ c.new-buffer.ensures
    (puts_then {E = Unit {0}} (Ok (tt {0})) (count_line outcome.done outcome.refused) (flat_map held_line outcome.nodes.items) _ _ _ _ _ _ _
    _ _ c.in_ok-put_world_outcome_event_counts.ensures (rw c.deref.ensures.value at c.in_ok-put_world_node_lines.ensures))
    c.flush.ensures.ok c.flush.ensures.part c.flush.ensures.failed
