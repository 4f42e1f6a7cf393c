use Rattle.std.specs.Prelude.{codes}
use Rattle.command_faults.specs.FaultLines.{line_head}
use Rattle.command_faults.proofs.Taken.{part_front, takes_err, takes_then}
use Rattle.command_faults.proofs.facts_lines.write_bad_hex_fault_line.Goals as goal

pub returns-in_err-write_fault_words_and_count : goal.returns-in_err-write_fault_words_and_count
returns-in_err-write_fault_words_and_count g c =
    takes_err c.from_residual.result _ _ _ _ _ c.from_residual.ensures.0
    (part_front (line_head c.args.line) (codes " bad hex") _ _ _ _ c.in_err-write_fault_words_and_count.ensures)

pub returns : goal.returns
returns g c =
    takes_then c.write_text_in_fault_line.result (line_head c.args.line) (codes " bad hex") _ _ _ _ _ _ c.in_ok-write_fault_words_and_count.ensures c.write_text_in_fault_line.ensures
