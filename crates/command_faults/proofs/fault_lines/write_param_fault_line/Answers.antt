use Rattle.std.proofs.Common.{string_bytes}
use Rattle.command_faults.specs.FaultLines.{name_text, param_head}
use Rattle.command_faults.proofs.Taken.{part_front, takes_err, takes_then}
use Rattle.command_faults.proofs.fault_lines.write_param_fault_line.Goals as goal

pub returns-in_err-write_param_fault_head : goal.returns-in_err-write_param_fault_head
returns-in_err-write_param_fault_head g c =
    takes_err c.from_residual.result _ _ _ _ _ c.from_residual.ensures.0
    (part_front (param_head c.args.line.now.fault) (name_text (string_bytes c.args.line.now.name)) _ _ _ _
    c.in_err-write_param_fault_head.ensures)

pub returns : goal.returns
returns g c =
    takes_then c.write_param_name_in_fault_line.result (param_head c.args.line.now.fault) (name_text (string_bytes c.args.line.now.name)) _ _ _ _ _ _
    c.in_ok-write_param_fault_head.ensures c.write_param_name_in_fault_line.ensures
