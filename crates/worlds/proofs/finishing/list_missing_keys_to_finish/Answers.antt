use Rattle.std.proofs.Common.{rules, ap, ◌∙◌, filter}
use Rattle.std.proofs.lemmas.Fn.{filter_same}
use Rattle.held_facts.specs.HeldAnswers.{lacks}
use Rattle.worlds.proofs.finishing.list_missing_keys_to_finish.Goals as goal

pub returns : goal.returns
returns g c =
    filter_same _ (lacks c.args.held.now) _ (λ key b f' k. search rules) _ _ c.retain.ensures.filtered
    ∙ ap (filter (lacks c.args.held.now)) c.in_ok-keys.ensures
