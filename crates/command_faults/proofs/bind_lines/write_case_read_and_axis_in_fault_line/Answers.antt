use Rattle.std.proofs.Common.{◌++◌, ◌∷◌, append_assoc}
use Rattle.std.proofs.lemmas.List.{append-nil}
use Rattle.std.specs.Fmt.{decimal}
use Rattle.std.specs.Prelude.{codes}
use Rattle.command_faults.specs.FaultLines.{axis_word}
use Rattle.command_faults.proofs.Taken.{part_front, part_then, takes_err, takes_then}
use Rattle.command_faults.proofs.bind_lines.write_case_read_and_axis_in_fault_line.Goals as goal

pub returns-in_err-write_fault_words_and_count : goal.returns-in_err-write_fault_words_and_count
returns-in_err-write_fault_words_and_count g c =
    let case = codes " case " ++ decimal c.args.case in
    let read = codes " read " ++ decimal c.args.read in
    simp append_assoc (takes_err c.from_residual.result _ _ _ _ _ c.from_residual.ensures.0
    (part_front case (read ++ 32 ∷ axis_word c.args.axis) _ _ _ _ c.in_err-write_fault_words_and_count.ensures))

pub returns-in_err-write_fault_words_and_count-2 : goal.returns-in_err-write_fault_words_and_count-2
returns-in_err-write_fault_words_and_count-2 g c =
    let case = codes " case " ++ decimal c.args.case in
    let read = codes " read " ++ decimal c.args.read in
    let failed = c.from_residual-in_err-write_fault_words_and_count-2 in
    simp append_assoc (takes_err failed.result _ _ _ _ _ failed.ensures.0
    (part_then case (read ++ 32 ∷ axis_word c.args.axis) _ _ _ _ _ _ c.in_ok-write_fault_words_and_count.ensures
    (part_front read (32 ∷ axis_word c.args.axis) _ _ _ _ c.in_err-write_fault_words_and_count-2.ensures)))

pub returns : goal.returns
returns g c =
    let case = codes " case " ++ decimal c.args.case in
    let read = codes " read " ++ decimal c.args.read in
    simp append_assoc (takes_then c.write_texts_in_fault_line.result case (read ++ 32 ∷ axis_word c.args.axis) _ _ _ _ _ _ c.in_ok-write_fault_words_and_count.ensures
    (takes_then c.write_texts_in_fault_line.result read (32 ∷ axis_word c.args.axis) _ _ _ _ _ _ c.in_ok-write_fault_words_and_count-2.ensures
    (simp append-nil at (rw c.choose_axis_word_in_fault_line.ensures at c.write_texts_in_fault_line.ensures))))
