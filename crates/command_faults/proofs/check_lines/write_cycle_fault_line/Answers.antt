use Rattle.std.proofs.Common.{[]}
use Rattle.std.specs.List.{flat_map}
use Rattle.pipe_checks.specs.declared.fault.CheckFault.TheVariants.{Cycle}
use Rattle.command_faults.specs.FaultLines.{check_head, name_text}
use Rattle.command_faults.proofs.Taken.{part_front, takes_err, takes_then}
use Rattle.command_faults.proofs.check_lines.write_cycle_fault_line.Goals as goal

pub returns-in_err-write_fault_head : goal.returns-in_err-write_fault_head
returns-in_err-write_fault_head g c =
    takes_err c.from_residual.result _ _ _ _ _ c.from_residual.ensures.0
    (part_front (check_head (Cycle [])) (flat_map name_text c.args.names.now) _ _ _ _ c.in_err-write_fault_head.ensures)

pub returns : goal.returns
returns g c =
    takes_then c.write_fault_cycle_names.result (check_head (Cycle [])) (flat_map name_text c.args.names.now) _ _ _ _ _ _ c.in_ok-write_fault_head.ensures
    c.write_fault_cycle_names.ensures
