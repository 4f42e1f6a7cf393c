use Rattle.std.proofs.Common.{arith}
use Rattle.fact_commands.specs.Verdicts.{retired_line}
use Rattle.write_buffer.proofs.PassingLaws.{breaks_more, passes_more, puts_err}
use Rattle.fact_commands.proofs.audit_lines.put_retirement_audit_lines.Goals as goal

pub returns-in_err-put_retirement_audit_line : goal.returns-in_err-put_retirement_audit_line
returns-in_err-put_retirement_audit_line g c =
    puts_err c.from_residual.result _ _ _ _ _ _ _ c.from_residual.ensures.0
    (breaks_more retired_line c.args.retired.now c.loop-job.job-index _ _ _ _ _ _ _ _ _ (omega arith)
    c.loop-job.invariant (rw c.job-item.is at c.in_err-put_retirement_audit_line.ensures))

pub loop-job-preserved : goal.loop-job-preserved
loop-job-preserved g c =
    passes_more retired_line c.args.retired.now c.loop-job.job-index _ _ _ _ _ _ _ _ _ _ (omega arith)
    c.loop-job.invariant (rw c.job-item.is at c.in_ok-put_retirement_audit_line.ensures)
