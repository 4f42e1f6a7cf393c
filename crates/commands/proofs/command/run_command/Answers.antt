use Rattle.std.proofs.Common.{inl, inr, refl}
use Rattle.commands.proofs.Telling.{names_command}
use Rattle.commands.proofs.command.run_command.Goals as goal

pub returns-in-Ok-clause-done : goal.returns-in-Ok-clause-done
returns-in-Ok-clause-done g c = λ ends.
    let done = c.run_command_request_to_exit_status.ensures.done ends in
    (done.0, (c.in-Ok.request, c.in-Ok.ensures.asked, done.1))

pub returns-in-Ok-clause-found : goal.returns-in-Ok-clause-found
returns-in-Ok-clause-found g c = λ ends.
    let found = c.run_command_request_to_exit_status.ensures.found ends in
    (found.0, (c.in-Ok.request, c.in-Ok.ensures.asked, found.1))

pub returns-in-Ok-clause-memory : goal.returns-in-Ok-clause-memory
returns-in-Ok-clause-memory g c = λ ends.
    (names_command c.args.words.now c.in-Ok.request c.in-Ok.ensures.asked, c.run_command_request_to_exit_status.ensures.memory ends)

pub returns-in-Err-Memory-clause-memory : goal.returns-in-Err-Memory-clause-memory
returns-in-Err-Memory-clause-memory g c = λ ends. (inr (c.in-Err-Memory.ensures.memory c.in-Err-Memory.field-0-is), c.print_fault_line_in_run_command.ensures)

pub returns-in-Ok-clause-usage : goal.returns-in-Ok-clause-usage
returns-in-Ok-clause-usage g c = λ ends. inr (c.in-Ok.request, c.in-Ok.ensures.asked, c.run_command_request_to_exit_status.ensures.usage ends)

pub returns-in-Ok-clause-unreadable : goal.returns-in-Ok-clause-unreadable
returns-in-Ok-clause-unreadable g c = λ ends. (c.in-Ok.request, c.in-Ok.ensures.asked, c.run_command_request_to_exit_status.ensures.unreadable ends)

pub returns-in-Ok-clause-refused : goal.returns-in-Ok-clause-refused
returns-in-Ok-clause-refused g c = λ ends. (c.in-Ok.request, c.in-Ok.ensures.asked, c.run_command_request_to_exit_status.ensures.refused ends)

pub returns-in-Ok-clause-failed : goal.returns-in-Ok-clause-failed
returns-in-Ok-clause-failed g c = λ ends.
    elim (c.run_command_request_to_exit_status.ensures.failed ends) [
      | inl read ↦ inl read
      | inr (inl written) ↦ inr (inl (written.0, (c.in-Ok.request, c.in-Ok.ensures.asked, written.1)))
      | inr (inr farm) ↦ inr (inr (farm.0, (c.in-Ok.request, c.in-Ok.ensures.asked, farm.1)))
    ]

pub returns-in-Err-Usage-clause-usage : goal.returns-in-Err-Usage-clause-usage
returns-in-Err-Usage-clause-usage g c = λ ends. inl (c.in-Err-Usage.ensures.usage c.in-Err-Usage.field-0-is, refl, c.print_usage_line_in_run_command.ensures)
