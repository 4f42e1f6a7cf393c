use Rattle.std.specs.List.{flat_map}
use Rattle.fact_commands.specs.Verdicts.{retired_line, verdict_lines}
use Rattle.write_buffer.proofs.PassingLaws.{breaks_front, puts_err, puts_then}
use Rattle.fact_commands.proofs.audit_lines.put_audit_lines.Goals as goal

pub returns-in_err-put_audit_verdict_lines : goal.returns-in_err-put_audit_verdict_lines
returns-in_err-put_audit_verdict_lines g c =
    puts_err c.from_residual.result _ _ _ _ _ _ _ c.from_residual.ensures.0
    (breaks_front (verdict_lines c.args.facts.now c.args.verdicts.now) (flat_map retired_line c.args.retired.now) _ _ _ _ _
    c.in_err-put_audit_verdict_lines.ensures)

pub returns : goal.returns
returns g c =
    puts_then c.put_retirement_audit_lines.result (verdict_lines c.args.facts.now c.args.verdicts.now) (flat_map retired_line c.args.retired.now)
    _ _ _ _ _ _ _ _ _ c.in_ok-put_audit_verdict_lines.ensures c.put_retirement_audit_lines.ensures
