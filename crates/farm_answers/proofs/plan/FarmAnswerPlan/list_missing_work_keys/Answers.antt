use Rattle.std.proofs.Common.{rules, ap, ◌∙◌, filter}
use Rattle.std.proofs.lemmas.Fn.{filter_same}
use Rattle.held_facts.specs.HeldAnswers.{lacks}
use Rattle.farm_answers.proofs.plan.FarmAnswerPlan.list_missing_work_keys.Goals as goal

pub returns : goal.returns
returns c =
    filter_same _ (lacks c.args.held.now) _ (λ key b f' k. search rules) _ _ c.retain.ensures.filtered
    ∙ ap (filter (lacks c.args.held.now)) c.in_ok-keys.ensures
