use Rattle.std.proofs.Common.{◌≡◌, ◌∙◌, ◌++◌, arith, subst}
use Rattle.std.proofs.lemmas.List.{take-append-drop}
use Rattle.std.proofs.lemmas.Option.{IfSome_then}
use Rattle.std.proofs.lemmas.Result.{IfOk-weaker}
use Rattle.row_plans.specs.Leads.{Leads}
use Rattle.row_plans.proofs.Leading.{leads_then, leads_length}
use Rattle.row_plans.proofs.row_plan_check.take_all_plan_steps.Goals as goal

pub returns-in-Some : goal.returns-in-Some
returns-in-Some c = IfOk-weaker c.take_repeated_plan_steps.result _ _
    (λ found h. IfSome_then found h (λ next k. λ states len are.
    let rows = c.args.rows.now in
    let outputs = c.args.outputs.now in
    let steps = c.args.steps.now in
    let before = c.split_at.result.0.now in
    let rest = c.split_at.result.1.now in
    let first = c.in-Some.ensures states are in
    let same = leads_length rows outputs states c.args.row before first.after c.in-Some.next first.leads in
    let second = k first.after (omega (arith, same, len, c.take_plan_steps.auto.windows)) first.windows_after in
    let whole : before ++ rest ≡ steps = (λ i. c.split_at.ensures.front i ++ c.split_at.ensures.back i) ∙ take-append-drop c.min.result steps in
    record {
      after = second.after;
      leads = subst (λ l. Leads rows outputs states c.args.row l second.after next) whole
          (leads_then rows outputs states c.args.row before first.after c.in-Some.next rest second.after next first.leads second.leads);
    })) c.take_repeated_plan_steps.ensures
