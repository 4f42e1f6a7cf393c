use Rattle.command_faults.specs.FaultLines.{at_line_text, script_head}
use Rattle.command_faults.proofs.Taken.{part_front, takes_err, takes_then}
use Rattle.command_faults.proofs.script_lines.write_script_fault_line.Goals as goal

pub returns-in_err-write_script_fault_head : goal.returns-in_err-write_script_fault_head
returns-in_err-write_script_fault_head g c =
    takes_err c.from_residual.result _ _ _ _ _ c.from_residual.ensures.0
    (part_front (script_head c.args.fault) (at_line_text c.args.fault) _ _ _ _ c.in_err-write_script_fault_head.ensures)

pub returns : goal.returns
returns g c =
    takes_then c.write_script_fault_line_number_if_any.result (script_head c.args.fault) (at_line_text c.args.fault) _ _ _ _ _ _
    c.in_ok-write_script_fault_head.ensures c.write_script_fault_line_number_if_any.ensures
