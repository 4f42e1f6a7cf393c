use Rattle.std.proofs.Common.{rules, ◌≡◌, ◌∙◌, ap, subst, filter}
use Rattle.std.proofs.lemmas.Fn.{filter_same}
use Rattle.std.specs.List.{Contains}
use Rattle.std.specs.Prelude.{List}
use Rattle.farm.proofs.Gathering.{has, held_keys, lent_of_held}
use Rattle.held_facts.specs.Answers.{IsLendFault}
use Rattle.held_facts.specs.Facts.{lent}
use Rattle.identity.specs.declared.key.Key.{Key}
use Rattle.farm.proofs.closing.select_facts_of_closed_farm_node_by_keys.Goals as goal

pub unreachable-requires : goal.unreachable-requires
unreachable-requires c =
    let held = c.args.held.now in
    let key = c.in-Err-NotHeld.field-0-0 in
    let copied : c.in_ok-there.there.items ≡ c.args.keys.now = search rules in
    let there : c.deref.result.now ≡ filter (has held) c.args.keys.now =
    c.deref.ensures.value
    ∙ filter_same _ (has held) _ (λ key b f' k. search rules) _ _ c.retain.ensures.filtered
    ∙ ap (filter (has held)) copied in
    let least = subst (IsLendFault held c.deref.result.now) c.in-Err-NotHeld.field-0-is c.in-Err-NotHeld.ensures.fault in
    held_keys held c.args.keys.now key (subst (λ (keys : List Key). Contains keys key) there least.asked) least.not_held

pub returns-in-Ok : goal.returns-in-Ok
returns-in-Ok c =
    let held = c.args.held.now in
    let copied : c.in_ok-there.there.items ≡ c.args.keys.now = search rules in
    let there : c.deref.result.now ≡ filter (has held) c.args.keys.now =
    c.deref.ensures.value
    ∙ filter_same _ (has held) _ (λ key b f' k. search rules) _ _ c.retain.ensures.filtered
    ∙ ap (filter (has held)) copied in
    c.in-Ok.ensures.lent ∙ ap (lent held) there ∙ lent_of_held held c.args.keys.now
