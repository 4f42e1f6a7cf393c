use Rattle.std.proofs.Common.{ℕ, ◌≡◌, List, IfSome, length, subst}
use Rattle.std.proofs.lemmas.Bool.{eqb-true}
use Rattle.row_plans.specs.Leads.{IsTakenThrough, Leads}
use Rattle.row_plans.specs.declared.row_state.RowState.{RowState}
use Rattle.job.specs.Kept.{pipeline_in}
use Rattle.row_plans.specs.Checks.{AreStatesOf}
use Rattle.row_plans.specs.Plans.{IsRunnable}
use Rattle.row_plans.specs.Windows.{AreWindowsOf}
use Rattle.row_plans.proofs.Leading.{leads_run}
use Rattle.row_plans.proofs.row_plan_check.is_row_plan_runnable.Goals as goal

pub returns-in-Some-2 : goal.returns-in-Some-2
returns-in-Some-2 c = λ yes.
    let job = pipeline_in c.args.job.now in
    let states = c.args.plan.now.states.items in
    let steps = c.args.plan.now.steps.items in
    let areas : AreStatesOf c.args.rows.now states = rw c.deref.ensures.value at (c.are_row_states_of_stages.ensures c.if-not-are_row_states_of_stages.false) in
    let found = rw c.in-Some.is at c.in_ok-windows.ensures.windows in
    let long = rw c.in-Some.is at c.in_ok-windows.ensures.len in
    let windows = rw (c.deref-2.ensures.value, ← c.deref_mut.ensures.value) at found in
    let len = rw (c.deref-2.ensures.value, ← c.deref_mut.ensures.value) at long in
    let P : ℕ → Type 0 = λ next. (own : List RowState) → length own ≡ length c.deref_mut.result.now → AreWindowsOf own c.deref_mut.result.now
    → IsTakenThrough c.args.rows.now c.args.outputs.now c.args.first own c.deref-3.result.now next in
    let taken = (subst (λ r. IfSome r P) c.in-Some-2.is c.in_ok-row.ensures) states len windows in
    let leads = subst (λ l. Leads c.args.rows.now c.args.outputs.now states c.args.first l taken.after c.in-Some-2.row) c.deref-3.ensures.value taken.leads in
    let last : c.in-Some-2.row ≡ c.args.end = eqb-true c.in-Some-2.row c.args.end yes in
    subst (λ z. IsRunnable job c.args.outputs.now z c.args.first states steps) last
    (leads_run job c.args.rows.now c.args.outputs.now states c.args.first steps taken.after c.in-Some-2.row c.requires areas leads)
