use Rattle.command_faults.proofs.fault_lines.write_farm_fault_line.Goals as goal

pub returns-in-Close : goal.returns-in-Close
returns-in-Close g c = rw c.in-Close.is c.write_text_in_fault_line-in-Close.ensures
