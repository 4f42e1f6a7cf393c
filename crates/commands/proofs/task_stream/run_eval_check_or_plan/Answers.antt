use Rattle.std.proofs.Common.{◌≡◌, ◌∙◌, Err, ap, subst, sym}
use Rattle.std.proofs.lemmas.Result.{err_from_is_err_and}
use Rattle.command_outcomes.specs.Outcomes.{refusing_job, saying_of_job}
use Rattle.command_outcomes.proofs.Written.{all_written, job_refused, part_written, said_of}
use Rattle.commands.specs.declared.question.JobQuestion.{JobQuestion}
use Rattle.commands.specs.inside.Questions.{saying_of}
use Rattle.command_jobs.specs.Results.{result_bytes}
use Rattle.job.specs.Kept.{pipeline_in}
use Rattle.streamed_results.specs.StreamedBytes.{streamed_bytes}
use Rattle.command_outcomes.specs.Replies.{reply_bytes}
use Rattle.commands.proofs.task_stream.run_eval_check_or_plan.Goals as goal

pub returns-in_err-job-clause-written : goal.returns-in_err-job-clause-written
returns-in_err-job-clause-written g c =
    let given = c.args.parameters.now in
    let sides = c.args.options.now.sides in
    let says = saying_of_job (saying_of c.args.question c.args.options.now.stored c.args.options.now.percent) given sides in
    let read = c.in_ok-input.ensures in
    let p = err_from_is_err_and c.from_residual-in_err-job.result c.from_residual-in_err-job.ensures.1 in
    rw (p.1, p.2) (job_refused says (g.R.Source.remaining c.args.reader.now) c.in_ok-input.input.items given sides
    c.in_err-job.field-0.0 (g.W.Sink.contents c.args.writer.now) read.whole read.within c.in_err-job.ensures.fault)

pub returns-in_err-write_job_reply-clause-written : goal.returns-in_err-write_job_reply-clause-written
returns-in_err-write_job_reply-clause-written g c =
    let given = c.args.parameters.now in
    let sides = c.args.options.now.sides in
    let asks = saying_of c.args.question c.args.options.now.stored c.args.options.now.percent in
    let read = c.in_ok-input.ensures in
    let made = c.in_ok-job.ensures in
    let tree = made.of_input.tree in
    let bytes = reply_bytes c.in_ok-reply.reply in
    let asked = c.in_ok-asked.ensures in
    let said =
    said_of asks c.in_ok-input.input.items given sides c.in_ok-job.job bytes made.of_input made.job
    (asked.saying c.args.options.now.stored c.args.options.now.percent tree bytes
    (c.in_ok-reply.ensures tree (asked.text ∙ made.of_input.text))) in
    let failed = c.from_residual-in_err-write_job_reply in
    let p = err_from_is_err_and failed.result failed.ensures.1 in
    part_written (saying_of_job asks given sides) (refusing_job given sides) (g.R.Source.remaining c.args.reader.now)
    c.in_ok-input.input.items tt bytes failed.result (g.W.Sink.contents c.args.writer.now) _ read.whole read.within said
    c.in_err-write_job_reply.ensures.taken (p.1 ∙ ap Err p.2)

pub returns-clause-written : goal.returns-clause-written
returns-clause-written g c =
    let given = c.args.parameters.now in
    let sides = c.args.options.now.sides in
    let asks = saying_of c.args.question c.args.options.now.stored c.args.options.now.percent in
    let read = c.in_ok-input.ensures in
    let made = c.in_ok-job.ensures in
    let tree = made.of_input.tree in
    let bytes = reply_bytes c.in_ok-reply.reply in
    let asked = c.in_ok-asked.ensures in
    let said =
    said_of asks c.in_ok-input.input.items given sides c.in_ok-job.job bytes made.of_input made.job
    (asked.saying c.args.options.now.stored c.args.options.now.percent tree bytes
    (c.in_ok-reply.ensures tree (asked.text ∙ made.of_input.text))) in
    all_written (saying_of_job asks given sides) (refusing_job given sides) (g.R.Source.remaining c.args.reader.now)
    c.in_ok-input.input.items tt bytes (g.W.Sink.contents c.args.writer.now) _ read.whole read.within said
    c.in_ok-write_job_reply.ensures.taken

pub returns-in_err-write-clause-written : goal.returns-in_err-write-clause-written
returns-in_err-write-clause-written g c =
    let given = c.args.parameters.now in
    let sides = c.args.options.now.sides in
    let asks = saying_of c.args.question c.args.options.now.stored c.args.options.now.percent in
    let read = c.in_ok-input.ensures in
    let made = c.in_ok-job.ensures in
    let tree = made.of_input.tree in
    let bytes = streamed_bytes c.in-Some.result in
    let is : bytes ≡ result_bytes (pipeline_in c.in_ok-asked.asked) = rw c.in-Some.is at c.in_ok-result.ensures in
    let said =
    said_of asks c.in_ok-input.input.items given sides c.in_ok-job.job bytes made.of_input made.job
    (c.in_ok-asked.ensures.saying c.args.options.now.stored c.args.options.now.percent tree bytes
    (subst (λ (q : JobQuestion). saying_of q c.args.options.now.stored c.args.options.now.percent tree (pipeline_in c.in_ok-asked.asked) bytes)
    (sym c.in-Answer.is) is)) in
    let failed = c.from_residual-in_err-write in
    let p = err_from_is_err_and failed.result failed.ensures.1 in
    part_written (saying_of_job asks given sides) (refusing_job given sides) (g.R.Source.remaining c.args.reader.now)
    c.in_ok-input.input.items tt bytes failed.result (g.W.Sink.contents c.args.writer.now) _ read.whole read.within said
    c.in_err-write.ensures.taken (p.1 ∙ ap Err p.2)

pub returns-in-Some-clause-written : goal.returns-in-Some-clause-written
returns-in-Some-clause-written g c =
    let given = c.args.parameters.now in
    let sides = c.args.options.now.sides in
    let asks = saying_of c.args.question c.args.options.now.stored c.args.options.now.percent in
    let read = c.in_ok-input.ensures in
    let made = c.in_ok-job.ensures in
    let tree = made.of_input.tree in
    let bytes = streamed_bytes c.in-Some.result in
    let is : bytes ≡ result_bytes (pipeline_in c.in_ok-asked.asked) = rw c.in-Some.is at c.in_ok-result.ensures in
    let said =
    said_of asks c.in_ok-input.input.items given sides c.in_ok-job.job bytes made.of_input made.job
    (c.in_ok-asked.ensures.saying c.args.options.now.stored c.args.options.now.percent tree bytes
    (subst (λ (q : JobQuestion). saying_of q c.args.options.now.stored c.args.options.now.percent tree (pipeline_in c.in_ok-asked.asked) bytes)
    (sym c.in-Answer.is) is)) in
    all_written (saying_of_job asks given sides) (refusing_job given sides) (g.R.Source.remaining c.args.reader.now)
    c.in_ok-input.input.items tt bytes (g.W.Sink.contents c.args.writer.now) _ read.whole read.within said
    c.in_ok-write.ensures.taken
