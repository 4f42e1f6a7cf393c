use Rattle.std.proofs.Common.{sym, subst, take}
use Rattle.row_plans.specs.Leads.{IsTaken, Leads}
use Rattle.row_plans.specs.declared.plan.PlanStep.{PlanStep}
use Rattle.row_plans.specs.declared.plan.PlanStep.TheVariants.{Make}
use Rattle.std.proofs.lemmas.List.{take_all, take_more}
use Rattle.std.specs.Prelude.{slice_index_or, ◌∷◌, []}
use Rattle.row_plans.proofs.Leading.{leads_then}
use Rattle.row_plans.proofs.row_plan_check.take_plan_steps.Goals as goal

pub loop-step-preserved : goal.loop-step-preserved
loop-step-preserved c = λ states are.
    let rows = c.args.rows.now in
    let outputs = c.args.outputs.now in
    let steps = c.args.steps.now in
    let at = c.loop-step.step-index in
    let none : PlanStep = Make 0 in
    let before = c.loop-step.invariant states are in
    let taken = c.in-Some.ensures before.after before.windows_after in
    record {
      after = taken.after;
      windows_after = taken.windows_after;
      leads = subst (λ l. Leads rows outputs states c.args.row l taken.after c.in-Some.after) (sym (take_more steps at none c.loop-step-test.true))
          (leads_then rows outputs states c.args.row (take at steps) before.after c.loop-step.next (slice_index_or steps at none ∷ []) taken.after c.in-Some.after
          before.leads taken.leads);
    }

pub returns : goal.returns
returns c = λ states are.
    subst (λ l. IsTaken c.args.rows.now c.args.outputs.now c.args.row states l c.loop-step.next c.loop-step.windows)
    (take_all c.loop-step.step-index c.args.steps.now c.loop-step-test.false) (c.loop-step.invariant states are)
