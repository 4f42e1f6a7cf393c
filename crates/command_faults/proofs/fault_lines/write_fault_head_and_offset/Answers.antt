use Rattle.command_faults.specs.FaultLines.{head, offset_text}
use Rattle.command_faults.proofs.Taken.{part_front, takes_err, takes_then}
use Rattle.command_faults.proofs.fault_lines.write_fault_head_and_offset.Goals as goal

pub returns-in_err-write_fault_head : goal.returns-in_err-write_fault_head
returns-in_err-write_fault_head g c =
    takes_err c.from_residual.result _ _ _ _ _ c.from_residual.ensures.0
    (part_front (head c.args.kind.now c.args.number c.args.name.now) (offset_text c.args.offset) _ _ _ _ c.in_err-write_fault_head.ensures)

pub returns : goal.returns
returns g c =
    takes_then c.write_offset_or_zero_in_fault_line.result (head c.args.kind.now c.args.number c.args.name.now) (offset_text c.args.offset) _ _ _ _ _ _
    c.in_ok-write_fault_head.ensures c.write_offset_or_zero_in_fault_line.ensures
