use Rattle.std.proofs.Common.{◌++◌}
use Rattle.command_faults.specs.FaultLines.{bind_head, blamed_text, read_text}
use Rattle.command_faults.proofs.Taken.{all_then, part_front, part_then, takes_err, takes_then}
use Rattle.command_faults.proofs.bind_lines.write_bind_fault_line.Goals as goal

pub returns-in_err-write_bind_fault_head : goal.returns-in_err-write_bind_fault_head
returns-in_err-write_bind_fault_head g c =
    let line = c.args.line.now in
    takes_err c.from_residual.result _ _ _ _ _ c.from_residual.ensures.0
    (part_front (bind_head line.fault ++ blamed_text line.blamed) (read_text line.fault) _ _ _ _
    (part_front (bind_head line.fault) (blamed_text line.blamed) _ _ _ _ c.in_err-write_bind_fault_head.ensures))

pub returns-in_err-write_fault_blamed_name_if_any : goal.returns-in_err-write_fault_blamed_name_if_any
returns-in_err-write_fault_blamed_name_if_any g c =
    let line = c.args.line.now in
    takes_err c.from_residual-in_err-write_fault_blamed_name_if_any.result _ _ _ _ _ c.from_residual-in_err-write_fault_blamed_name_if_any.ensures.0
    (part_front (bind_head line.fault ++ blamed_text line.blamed) (read_text line.fault) _ _ _ _
    (part_then (bind_head line.fault) (blamed_text line.blamed) _ _ _ _ _ _ c.in_ok-write_bind_fault_head.ensures c.in_err-write_fault_blamed_name_if_any.ensures))

pub returns : goal.returns
returns g c =
    let line = c.args.line.now in
    takes_then c.write_bounds_detail_of_fault_line_if_any.result (bind_head line.fault ++ blamed_text line.blamed) (read_text line.fault) _ _ _ _ _ _
    (all_then (bind_head line.fault) (blamed_text line.blamed) _ _ _ _ _ _ c.in_ok-write_bind_fault_head.ensures c.in_ok-write_fault_blamed_name_if_any.ensures)
    c.write_bounds_detail_of_fault_line_if_any.ensures
