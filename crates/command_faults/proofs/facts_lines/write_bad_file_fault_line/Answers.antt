use Rattle.command_faults.specs.FaultLines.{file_fault_text, offset_text}
use Rattle.tile_fact.specs.FaultTable.{offset_of}
use Rattle.command_faults.proofs.Taken.{part_front, takes_err, takes_then}
use Rattle.command_faults.proofs.facts_lines.write_bad_file_fault_line.Goals as goal

pub returns-in_err-write_bad_file_fault_head : goal.returns-in_err-write_bad_file_fault_head
returns-in_err-write_bad_file_fault_head g c =
    takes_err c.from_residual.result _ _ _ _ _ c.from_residual.ensures.0
    (part_front (file_fault_text c.args.line c.args.fault) (offset_text (offset_of c.args.fault)) _ _ _ _ c.in_err-write_bad_file_fault_head.ensures)

pub returns : goal.returns
returns g c =
    takes_then c.write_offset_or_zero_in_fault_line.result (file_fault_text c.args.line c.args.fault) (offset_text (offset_of c.args.fault)) _ _ _ _ _ _
    c.in_ok-write_bad_file_fault_head.ensures (rw c.offset.ensures at c.write_offset_or_zero_in_fault_line.ensures)
