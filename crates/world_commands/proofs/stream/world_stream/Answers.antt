use Rattle.std.proofs.Common.{◌∙◌, Err, ap}
use Rattle.std.proofs.lemmas.Result.{err_from_is_err_and}
use Rattle.command_outcomes.proofs.Written.{part_written}
use Rattle.world_commands.specs.WorldFaults.{refusing_world}
use Rattle.world_commands.specs.inside.Outcomes.{outcome_lines}
use Rattle.world_commands.specs.WorldSayings.{saying_of_world}
use Rattle.world_commands.proofs.stream.world_stream.Goals as goal

pub returns-in_err-write_event_counts_and_world_node_lines-clause-written : goal.returns-in_err-write_event_counts_and_world_node_lines-clause-written
returns-in_err-write_event_counts_and_world_node_lines-clause-written g c =
    let given = c.args.parameters.now in
    let options = c.args.options.now in
    let read = c.in_ok-input.ensures in
    let failed = c.from_residual-in_err-write_event_counts_and_world_node_lines in
    let p = err_from_is_err_and failed.result failed.ensures.1 in
    part_written (saying_of_world c.args.nodes options given) (refusing_world given options.sides)
    (g.R.Source.remaining c.args.reader.now) c.in_ok-input.input.items tt (outcome_lines c.in_ok-outcome.outcome) failed.result
    (g.W.Sink.contents c.args.writer.now) _ read.whole read.within c.in_ok-outcome.ensures.said c.in_err-write_event_counts_and_world_node_lines.ensures.taken
    (p.1 ∙ ap Err p.2)
