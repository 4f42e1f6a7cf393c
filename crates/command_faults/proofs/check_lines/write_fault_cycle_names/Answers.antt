use Rattle.std.proofs.Common.{arith}
use Rattle.command_faults.specs.FaultLines.{name_text}
use Rattle.command_faults.proofs.Taken.{part_more, takes_err}
use Rattle.command_faults.proofs.check_lines.write_fault_cycle_names.Goals as goal

pub returns-in_err-write_name_in_fault_line : goal.returns-in_err-write_name_in_fault_line
returns-in_err-write_name_in_fault_line g c =
    let part = rw c.name-item.is at c.in_err-write_name_in_fault_line.ensures in
    takes_err c.from_residual.result _ _ _ _ _ c.from_residual.ensures.0
    (part_more name_text c.args.names.now c.loop-name.name-index _ _ _ _ _ _ _ (omega arith) c.loop-name.invariant part)
