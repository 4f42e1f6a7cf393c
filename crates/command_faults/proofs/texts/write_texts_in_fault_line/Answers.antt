use Rattle.std.proofs.Common.{arith}
use Rattle.command_faults.proofs.Taken.{part_more, takes_err}
use Rattle.command_faults.proofs.texts.write_texts_in_fault_line.Goals as goal

pub returns-in_err-write_text_in_fault_line : goal.returns-in_err-write_text_in_fault_line
returns-in_err-write_text_in_fault_line g c =
    takes_err c.from_residual.result _ _ _ _ _ c.from_residual.ensures.0
    (part_more (λ t. t.now) c.args.texts.now c.loop-text.text-index _ _ _ _ _ _ _ (omega arith) c.loop-text.invariant
    c.in_err-write_text_in_fault_line.ensures)
