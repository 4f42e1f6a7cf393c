use Rattle.std.proofs.Common.{refl}
use Rattle.row_plans.specs.Plans.{states_after}
use Rattle.row_plans.proofs.row_plan_check.take_plan_step.Goals as goal

pub returns-then-take_plan_step_of_stage : goal.returns-then-take_plan_step_of_stage
returns-then-take_plan_step_of_stage c = λ states are.
    let made = c.take_plan_step_of_stage.ensures c.if-take_plan_step_of_stage.true states are in
    rw c.in-Make.is (record { after = states_after states c.in-Make.stage; windows_after = made.1; leads = (made.0, (refl, refl)) })

pub returns-then-is_planned_row_kept_for_all_outputs : goal.returns-then-is_planned_row_kept_for_all_outputs
returns-then-is_planned_row_kept_for_all_outputs c = λ states are.
    let kept = c.is_planned_row_kept_for_all_outputs.ensures c.if-is_planned_row_kept_for_all_outputs.true states are in
    rw c.in-Output.is (record { after = states; windows_after = are; leads = (kept, (refl, refl)) })
