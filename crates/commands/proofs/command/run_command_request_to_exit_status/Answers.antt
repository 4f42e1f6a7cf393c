use Rattle.std.proofs.Common.{sym, ◌∙◌}
use Rattle.commands.proofs.Telling.{failed_at, told_at}
use Rattle.commands.proofs.command.run_command_request_to_exit_status.Goals as goal

pub returns-in-Err-clause-usage : goal.returns-in-Err-clause-usage
returns-in-Err-clause-usage g c = λ ends.
    told_at 1 c.args.request.now _ c.in-Err.fault _ _ _ _ _ _ (sym c.exit_status.ensures ∙ ends) (λ e. cc) c.in-Err.ensures.written
    c.in-Err.ensures.write c.print_fault_line_in_run_command.ensures

pub returns-in-Err-clause-unreadable : goal.returns-in-Err-clause-unreadable
returns-in-Err-clause-unreadable g c = λ ends.
    told_at 2 c.args.request.now _ c.in-Err.fault _ _ _ _ _ _ (sym c.exit_status.ensures ∙ ends) (λ e. cc) c.in-Err.ensures.written
    c.in-Err.ensures.write c.print_fault_line_in_run_command.ensures

pub returns-in-Err-clause-refused : goal.returns-in-Err-clause-refused
returns-in-Err-clause-refused g c = λ ends.
    told_at 3 c.args.request.now _ c.in-Err.fault _ _ _ _ _ _ (sym c.exit_status.ensures ∙ ends) (λ e. cc) c.in-Err.ensures.written
    c.in-Err.ensures.write c.print_fault_line_in_run_command.ensures

pub returns-in-Err-clause-failed : goal.returns-in-Err-clause-failed
returns-in-Err-clause-failed g c = λ ends.
    failed_at c.args.request.now _ c.in-Err.fault _ _ _ _ _ _ _ _ (sym c.exit_status.ensures ∙ ends) c.in-Err.ensures.written
    c.in-Err.ensures.read c.in-Err.ensures.write c.print_fault_line_in_run_command.ensures
