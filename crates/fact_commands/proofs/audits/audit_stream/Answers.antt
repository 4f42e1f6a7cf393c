use Rattle.std.proofs.Common.{◌∙◌, Err, ap}
use Rattle.std.proofs.lemmas.Result.{err_from_is_err_and}
use Rattle.fact_commands.specs.FactFaults.{refusing_audit}
use Rattle.fact_commands.specs.FactSayings.{saying_of_audit}
use Rattle.command_outcomes.proofs.Written.{all_written, part_written}
use Rattle.fact_commands.specs.Auditing.{SaysVerdicts}
use Rattle.fact_commands.specs.Verdicts.{audit_lines}
use Rattle.fact_commands.proofs.audits.audit_stream.Goals as goal

pub returns-in_err-write_audit_lines-clause-written : goal.returns-in_err-write_audit_lines-clause-written
returns-in_err-write_audit_lines-clause-written g c =
    let given = c.args.parameters.now in
    let sides = c.args.options.now.sides in
    let judged = c.in_ok-judged.judged in
    let read = c.in_ok-input.ensures in
    let failed = c.from_residual-in_err-write_audit_lines in
    let p = err_from_is_err_and failed.result failed.ensures.1 in
    part_written (saying_of_audit SaysVerdicts given sides) (refusing_audit given sides) (g.R.Source.remaining c.args.reader.now)
    c.in_ok-input.input.items judged.found (audit_lines judged.facts.items judged.verdicts.items judged.retired.items) failed.result
    (g.W.Sink.contents c.args.writer.now) _ read.whole read.within c.in_ok-judged.ensures.said
    (rw c.deref.ensures.value at (rw c.deref-2.ensures.value at (rw c.deref-3.ensures.value at c.in_err-write_audit_lines.ensures.part))) (p.1 ∙ ap Err p.2)

pub returns-clause-written : goal.returns-clause-written
returns-clause-written g c =
    let given = c.args.parameters.now in
    let sides = c.args.options.now.sides in
    let judged = c.in_ok-judged.judged in
    let read = c.in_ok-input.ensures in
    all_written (saying_of_audit SaysVerdicts given sides) (refusing_audit given sides) (g.R.Source.remaining c.args.reader.now)
    c.in_ok-input.input.items judged.found (audit_lines judged.facts.items judged.verdicts.items judged.retired.items)
    (g.W.Sink.contents c.args.writer.now) _ read.whole read.within c.in_ok-judged.ensures.said
    (rw c.deref.ensures.value at (rw c.deref-2.ensures.value at (rw c.deref-3.ensures.value at c.in_ok-write_audit_lines.ensures.ok)))
