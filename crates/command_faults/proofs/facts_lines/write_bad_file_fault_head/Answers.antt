use Rattle.std.proofs.Common.{◌++◌, ◌∷◌, ◌∙◌, append_assoc}
use Rattle.std.proofs.lemmas.List.{append-nil}
use Rattle.std.specs.Fmt.{decimal}
use Rattle.tile_fact.specs.FaultTable.{name_of, number_of}
use Rattle.command_faults.specs.FaultLines.{line_head}
use Rattle.command_faults.proofs.Taken.{part_front, part_then, takes_err, takes_then}
use Rattle.command_faults.proofs.facts_lines.write_bad_file_fault_head.Goals as goal

pub returns-in_err-write_fault_words_and_count : goal.returns-in_err-write_fault_words_and_count
returns-in_err-write_fault_words_and_count g c =
    let number = 32 ∷ decimal (number_of c.args.fault) in
    simp append_assoc (takes_err c.from_residual.result _ _ _ _ _ c.from_residual.ensures.0
    (part_front (line_head c.args.line) (number ++ 32 ∷ name_of c.args.fault) _ _ _ _ c.in_err-write_fault_words_and_count.ensures))

pub returns-in_err-write_fault_words_and_count-2 : goal.returns-in_err-write_fault_words_and_count-2
returns-in_err-write_fault_words_and_count-2 g c =
    let number = 32 ∷ decimal (number_of c.args.fault) in
    let failed = c.from_residual-in_err-write_fault_words_and_count-2 in
    simp append_assoc (takes_err failed.result _ _ _ _ _ failed.ensures.0
    (part_then (line_head c.args.line) (number ++ 32 ∷ name_of c.args.fault) _ _ _ _ _ _ c.in_ok-write_fault_words_and_count.ensures
    (part_front number (32 ∷ name_of c.args.fault) _ _ _ _ (rw (c.from.ensures ∙ c.number.ensures) at c.in_err-write_fault_words_and_count-2.ensures))))

pub returns : goal.returns
returns g c =
    let number = 32 ∷ decimal (number_of c.args.fault) in
    let name = c.as_bytes.ensures.value ∙ c.name.ensures in
    simp append_assoc (takes_then c.write_texts_in_fault_line.result (line_head c.args.line) (number ++ 32 ∷ name_of c.args.fault) _ _ _ _ _ _
    c.in_ok-write_fault_words_and_count.ensures
    (takes_then c.write_texts_in_fault_line.result number (32 ∷ name_of c.args.fault) _ _ _ _ _ _
    (rw (c.from.ensures ∙ c.number.ensures) at c.in_ok-write_fault_words_and_count-2.ensures)
    (simp append-nil at (rw name at c.write_texts_in_fault_line.ensures))))
