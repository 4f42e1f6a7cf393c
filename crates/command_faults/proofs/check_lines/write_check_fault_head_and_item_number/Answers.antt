use Rattle.command_faults.specs.FaultLines.{check_head, item_text}
use Rattle.command_faults.proofs.Taken.{part_front, takes_err, takes_then}
use Rattle.command_faults.proofs.check_lines.write_check_fault_head_and_item_number.Goals as goal

pub returns-in_err-write_check_fault_head : goal.returns-in_err-write_check_fault_head
returns-in_err-write_check_fault_head g c =
    takes_err c.from_residual.result _ _ _ _ _ c.from_residual.ensures.0
    (part_front (check_head c.args.fault.now) (item_text c.args.fault.now) _ _ _ _ c.in_err-write_check_fault_head.ensures)

pub returns : goal.returns
returns g c =
    takes_then c.write_item_number_in_check_fault_line.result (check_head c.args.fault.now) (item_text c.args.fault.now) _ _ _ _ _ _ c.in_ok-write_check_fault_head.ensures
    c.write_item_number_in_check_fault_line.ensures
