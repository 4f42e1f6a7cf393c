use Rattle.write_buffer.proofs.PassingLaws.{part_out, whole_out}
use Rattle.fact_commands.proofs.audit_lines.write_audit_lines.Goals as goal

pub returns-clause-ok : goal.returns-clause-ok
returns-clause-ok g c =
    whole_out c.flush.result _ _ _ _ _ _ _ _ c.new-buffer.ensures c.in_ok-put_audit_lines.ensures c.flush.ensures.ok

pub returns-clause-part : goal.returns-clause-part
returns-clause-part g c =
    part_out c.flush.result _ _ _ _ _ _ _ _ c.new-buffer.ensures c.in_ok-put_audit_lines.ensures c.flush.ensures.part
