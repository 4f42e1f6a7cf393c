use Rattle.std.proofs.Common.{SFits, rules, w32}
use Rattle.std.proofs.Math.Facts.{to_z-of_z}
use Rattle.command_faults.specs.FaultLines.{ends_text, place_text}
use Rattle.command_faults.proofs.Taken.{part_front, takes_err, takes_then}
use Rattle.command_faults.proofs.bind_lines.write_out_of_bounds_read_in_fault_line.Goals as goal

pub returns-in_err-write_case_read_and_axis_in_fault_line : goal.returns-in_err-write_case_read_and_axis_in_fault_line
returns-in_err-write_case_read_and_axis_in_fault_line g c =
    takes_err c.from_residual.result _ _ _ _ _ c.from_residual.ensures.0
    (part_front (place_text c.args.case c.args.read c.args.axis) (ends_text c.args.least c.args.greatest) _ _ _ _
    c.in_err-write_case_read_and_axis_in_fault_line.ensures)

pub returns : goal.returns
returns g c =
    let low : SFits w32 c.args.least = search rules in
    let high : SFits w32 c.args.greatest = search rules in
    takes_then c.write_index_range_in_fault_line.result (place_text c.args.case c.args.read c.args.axis) (ends_text c.args.least c.args.greatest) _ _ _ _ _ _
    c.in_ok-write_case_read_and_axis_in_fault_line.ensures
    (rw (to_z-of_z {w = w32} {z = c.args.least} low, to_z-of_z {w = w32} {z = c.args.greatest} high) at c.write_index_range_in_fault_line.ensures)
