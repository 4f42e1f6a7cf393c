use Rattle.std.proofs.Common.{◌≡◌, suc, ◌+◌, ◌++◌, arith, ap, ◌∙◌}
use Rattle.row_plans.specs.Leads.{copies_of}
use Rattle.row_plans.proofs.Leading.{copies_more}
use Rattle.row_plans.proofs.repeated_plan_steps.count_repeated_plan_steps.Goals as goal

pub loop-times-preserved : goal.loop-times-preserved
loop-times-preserved c =
    let period = c.args.period.now in
    let n = c.loop-times.times in
    let after = c.in-Some.after.now in
    let more : suc n ≡ n + 1 = omega arith in
    c.loop-times.invariant ∙ ap (λ l. copies_of n period ++ l) c.in-Some.ensures ∙ copies_more n period after
    ∙ ap (λ k. copies_of k period ++ after) more
