use Rattle.std.proofs.Common.{inr}
use Rattle.command_inputs.proofs.Listed.{if_none}
use Rattle.command_inputs.proofs.sections.split_into_three_input_sections.Goals as goal

pub returns-in_err-middle-clause-none : goal.returns-in_err-middle-clause-none
returns-in_err-middle-clause-none c =
    let first = c.in_ok-text.ensures.first in
    if_none c.from_residual-in_err-middle.result
    (inr (
      c.in_ok-text.text.now,
      c.in_ok-text.behind.now,
      record { at = first.0; first = first.1; before = first.2; behind = first.3 },
      c.in_err-middle.ensures.none,
    ))
