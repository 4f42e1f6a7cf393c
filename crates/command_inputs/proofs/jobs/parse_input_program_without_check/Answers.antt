use Rattle.std.proofs.lemmas.Result.{err_from_is_err_and}
use Rattle.std.proofs.Common.{◌+◌, ◌≤◌, drop, length, take, refl}
use Rattle.pipe_tree.specs.Limits.{most_bytes}
use Rattle.command_faults.specs.StepFaults.{fault_at_parse}
use Rattle.command_inputs.specs.Faults.{HasShortText}
use Rattle.command_inputs.specs.Sections.{IsParted}
use Rattle.command_inputs.proofs.MemoryRefusals.{only_if_weaker, short_text}
use Rattle.command_inputs.proofs.Known.{program_fault, spelling_fault}
use Rattle.command_inputs.proofs.jobs.parse_input_program_without_check.Goals as goal

pub returns-in_err-tree-clause-fault : goal.returns-in_err-tree-clause-fault
returns-in_err-tree-clause-fault c = λ given sides.
    let p = err_from_is_err_and c.from_residual.result c.from_residual.ensures.1 in
    let input = c.args.input.now in
    let at = c.in-Some.at in
    let text = take at input in
    let rest = drop (at + 3) input in
    let parted : IsParted input text rest = record { at = at; first = c.in-Some.ensures.first; before = refl; behind = refl } in
    rw (p.1, p.2) (spelling_fault input text rest given sides _ parted (program_fault text rest c.in_err-tree.field-0.0
    c.in_err-tree.ensures.fault))

pub returns-in_err-tree-clause-memory : goal.returns-in_err-tree-clause-memory
returns-in_err-tree-clause-memory c =
    let p = err_from_is_err_and c.from_residual.result c.from_residual.ensures.1 in
    let input = c.args.input.now in
    let at = c.in-Some.at in
    let text = take at input in
    let rest = drop (at + 3) input in
    let f = c.in_err-tree.field-0.0 in
    let parted : IsParted input text rest = record { at = at; first = c.in-Some.ensures.first; before = refl; behind = refl } in
    rw (p.1, p.2) (only_if_weaker (length text ≤ most_bytes) (HasShortText input)
    (λ short. record { text = text; last = rest; parted = parted; short = short }) (fault_at_parse f)
    (short_text text f c.in_err-tree.ensures.long))
