use Rattle.std.proofs.Common.{sym, ◌∙◌}
use Rattle.command_line.proofs.tasks.read_command_task_from_first_word.Goals as goal

pub returns-in-eval-clause-some : goal.returns-in-eval-clause-some
returns-in-eval-clause-some c = (c.in_ok-word.word.now, sym c.in_ok-word.ensures.value, sym c.as_str.ensures.value ∙ c.in-eval.is)

pub returns-in-check-clause-some : goal.returns-in-check-clause-some
returns-in-check-clause-some c = (c.in_ok-word.word.now, sym c.in_ok-word.ensures.value, sym c.as_str.ensures.value ∙ c.in-check.is)

pub returns-in-plan-clause-some : goal.returns-in-plan-clause-some
returns-in-plan-clause-some c = (c.in_ok-word.word.now, sym c.in_ok-word.ensures.value, sym c.as_str.ensures.value ∙ c.in-plan.is)

pub returns-in-run-clause-some : goal.returns-in-run-clause-some
returns-in-run-clause-some c = (c.in_ok-word.word.now, sym c.in_ok-word.ensures.value, sym c.as_str.ensures.value ∙ c.in-run.is)

pub returns-in-audit-clause-some : goal.returns-in-audit-clause-some
returns-in-audit-clause-some c = (c.in_ok-word.word.now, sym c.in_ok-word.ensures.value, sym c.as_str.ensures.value ∙ c.in-audit.is)

pub returns-in-world-clause-some : goal.returns-in-world-clause-some
returns-in-world-clause-some c = (c.in_ok-word.word.now, sym c.in_ok-word.ensures.value, sym c.as_str.ensures.value ∙ c.in-world.is)
