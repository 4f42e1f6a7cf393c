use Rattle.std.proofs.Common.{◌≡◌, ◌∙◌, ◌+◌, ◌*◌, ◌++◌, arith, sym, subst, ap}
use Rattle.std.proofs.lemmas.List.{take-append-drop}
use Rattle.std.proofs.lemmas.Option.{IfSome_then}
use Rattle.row_plans.specs.Leads.{Leads, copies_of}
use Rattle.row_plans.specs.Moved.{AreWindowsMoved, states_moved, times_of}
use Rattle.row_plans.specs.Windows.{AreWindowsOf}
use Rattle.row_plans.proofs.Leading.{made_in, leads_on, leads_then, leads_to_moved, leads_with_repeats}
use Rattle.row_plans.proofs.row_plan_check.take_repeated_plan_steps.Goals as goal

pub returns-in-Some-Some : goal.returns-in-Some-Some
returns-in-Some-Some c = IfSome_then c.take_plan_steps-in-Some-Some.result c.take_plan_steps-in-Some-Some.ensures (λ w h. λ states len are.
    let rows = c.args.rows.now in
    let outputs = c.args.outputs.now in
    let steps = c.args.steps.now in
    let period = c.split_at.result.0.now in
    let rest = c.split_at.result.1.now in
    let next = c.in-Some.next in
    let times = c.count_repeated_plan_steps-times.result.0 in
    let left = c.count_repeated_plan_steps-times.result.1.now in
    let d = made_in period in
    let one = c.in-Some.ensures states are in
    let all = leads_to_moved rows outputs states c.args.row period one.after next one.leads in
    let on = leads_on rows outputs states c.args.row period one.after next one.leads in
    let begun : c.deref.result.now ≡ c.args.windows.now = c.deref.ensures.value ∙ c.in_ok-begun.ensures.items_if_clones_equal (λ x y e. e) in
    let moved : AreWindowsMoved d states c.deref.result.now c.take_plan_steps.new.windows = record {
      before = subst (AreWindowsOf states) (sym begun) are;
      after = subst (λ s. AreWindowsOf s c.take_plan_steps.new.windows) all one.windows_after;
    } in
    let windows = (rw c.in-Some-Some.is-0 at c.in_ok-moved.ensures.windows) states d moved in
    let can = (rw c.in-Some-Some.is-0 at c.in_ok-moved.ensures.repeats) states d moved (len ∙ sym c.take_plan_steps.auto.windows) in
    let height : next ≡ c.args.row + c.saturating_sub.result = omega arith in
    let row : c.in-Some-Some.after ≡ next + times * c.saturating_sub.result = (rw c.in-Some-Some.is-1 at c.find_row_after_planned_repeats.ensures) c.saturating_sub.result height in
    let after = states_moved (times_of times d) (states_moved d states) in
    let last = h after (subst (AreWindowsOf after) (sym c.deref_mut.ensures.value) windows) in
    let whole : period ++ (copies_of times period ++ left) ≡ steps =
    ap (λ l. period ++ l) (sym c.count_repeated_plan_steps-times.ensures)
    ∙ (λ i. c.split_at.ensures.front i ++ c.split_at.ensures.back i) ∙ take-append-drop c.min.result steps in
    record {
      after = last.after;
      leads = subst (λ l. Leads rows outputs states c.args.row l last.after w) whole
          (leads_with_repeats rows outputs states c.args.row period one.after next c.saturating_sub.result times left last.after w one.leads height can
          (subst (λ k. Leads rows outputs after k left last.after w) row last.leads));
    })

pub returns : goal.returns
returns c = IfSome_then c.take_plan_steps-2.result c.take_plan_steps-2.ensures (λ w h. λ states len are.
    let rows = c.args.rows.now in
    let outputs = c.args.outputs.now in
    let steps = c.args.steps.now in
    let period = c.split_at.result.0.now in
    let rest = c.split_at.result.1.now in
    let one = c.in-Some.ensures states are in
    let last = h one.after one.windows_after in
    let whole : period ++ rest ≡ steps = (λ i. c.split_at.ensures.front i ++ c.split_at.ensures.back i) ∙ take-append-drop c.min.result steps in
    record {
      after = last.after;
      leads = subst (λ l. Leads rows outputs states c.args.row l last.after w) whole
          (leads_then rows outputs states c.args.row period one.after c.in-Some.next rest last.after w one.leads last.leads);
    })
