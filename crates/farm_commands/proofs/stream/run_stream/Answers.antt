use Rattle.std.proofs.Common.{◌∙◌, Err, ap}
use Rattle.std.proofs.lemmas.Result.{err_from_is_err_and}
use Rattle.command_outcomes.proofs.Written.{all_written, part_written}
use Rattle.farm_commands.specs.FarmRuns.{saying_of_run}
use Rattle.farm_commands.specs.RunFaults.{refusing_run}
use Rattle.farm_commands.proofs.RunFaults.{run_refused}
use Rattle.command_outcomes.specs.Replies.{reply_bytes}
use Rattle.farm_commands.proofs.stream.run_stream.Goals as goal

pub returns-in_err-farmed-clause-written : goal.returns-in_err-farmed-clause-written
returns-in_err-farmed-clause-written g c =
    let given = c.args.parameters.now in
    let sides = c.args.options.now.sides in
    let read = c.in_ok-input.ensures in
    let p = err_from_is_err_and c.from_residual-in_err-farmed.result c.from_residual-in_err-farmed.ensures.1 in
    rw (p.1, p.2) (run_refused (saying_of_run c.args.setup.now c.args.options.now given) (g.R.Source.remaining c.args.reader.now)
    c.in_ok-input.input.items given sides c.in_err-farmed.field-0.0 (g.W.Sink.contents c.args.writer.now) read.whole read.within
    c.in_err-farmed.ensures.fault)

pub returns-in_err-write_job_reply-clause-written : goal.returns-in_err-write_job_reply-clause-written
returns-in_err-write_job_reply-clause-written g c =
    let given = c.args.parameters.now in
    let sides = c.args.options.now.sides in
    let read = c.in_ok-input.ensures in
    let failed = c.from_residual-in_err-write_job_reply in
    let p = err_from_is_err_and failed.result failed.ensures.1 in
    part_written (saying_of_run c.args.setup.now c.args.options.now given) (refusing_run given sides) (g.R.Source.remaining c.args.reader.now)
    c.in_ok-input.input.items c.in_ok-farmed.farmed.run (reply_bytes c.in_ok-farmed.farmed.reply) failed.result (g.W.Sink.contents c.args.writer.now) _ read.whole
    read.within c.in_ok-farmed.ensures.run c.in_err-write_job_reply.ensures.taken (p.1 ∙ ap Err p.2)

pub returns-clause-written : goal.returns-clause-written
returns-clause-written g c =
    let given = c.args.parameters.now in
    let sides = c.args.options.now.sides in
    let read = c.in_ok-input.ensures in
    all_written (saying_of_run c.args.setup.now c.args.options.now given) (refusing_run given sides) (g.R.Source.remaining c.args.reader.now)
    c.in_ok-input.input.items c.in_ok-farmed.farmed.run (reply_bytes c.in_ok-farmed.farmed.reply) (g.W.Sink.contents c.args.writer.now) _ read.whole read.within
    c.in_ok-farmed.ensures.run c.in_ok-write_job_reply.ensures.taken
