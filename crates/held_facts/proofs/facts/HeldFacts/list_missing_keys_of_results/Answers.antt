use Rattle.std.proofs.Common.{rules, ap, sym, ◌∙◌, subst, filter, List}
use Rattle.std.specs.Prelude.{AllPairs}
use Rattle.std.proofs.lemmas.Fn.{filter_same}
use Rattle.std.proofs.lemmas.List.Kept.{AllPairs-filter}
use Rattle.identity.specs.declared.key.Key.{Key}
use Rattle.held_facts.specs.HeldAnswers.{lacks}
use Rattle.overlap_tiles.specs.Needs.{IsKeyBefore}
use Rattle.held_facts.proofs.facts.HeldFacts.list_missing_keys_of_results.Goals as goal

pub returns-clause-missing : goal.returns-clause-missing
returns-clause-missing g c =
    filter_same _ (lacks c.args.self.now) _ (λ key b f' k. search rules) _ _ c.retain.ensures.filtered
    ∙ ap (filter (lacks c.args.self.now)) c.in_ok-keys.ensures.list

pub returns-clause-rising : goal.returns-clause-rising
returns-clause-rising g c =
    let s = c.args.self.now in
    let keys = c.in_ok-keys.keys.items in
    subst (λ (ks : List Key). AllPairs IsKeyBefore ks)
    (sym (filter_same _ (lacks s) _ (λ key b f' k. search rules) keys _ c.retain.ensures.filtered))
    (AllPairs-filter IsKeyBefore (lacks s) keys c.in_ok-keys.ensures.rising)
