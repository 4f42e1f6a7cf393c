use Rattle.std.proofs.Common.{◌≡◌, ◌++◌}
use Rattle.row_plans.specs.Leads.{copies_of}
use Rattle.row_plans.proofs.repeated_plan_steps.count_repeated_plan_steps.Given as goal

abbrev pub invariant-loop-times : goal.invariant-loop-times
invariant-loop-times l = l.steps ≡ copies_of l.times l.period ++ l.left
