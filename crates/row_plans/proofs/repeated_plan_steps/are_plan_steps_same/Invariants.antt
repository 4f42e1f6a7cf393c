use Rattle.std.proofs.Common.{◌≡◌, take}
use Rattle.row_plans.proofs.repeated_plan_steps.are_plan_steps_same.Given as goal

abbrev pub invariant-loop-place : goal.invariant-loop-place
invariant-loop-place l = take l.place l.steps ≡ take l.place l.others
