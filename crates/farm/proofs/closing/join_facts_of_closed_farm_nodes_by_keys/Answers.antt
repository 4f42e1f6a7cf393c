use Rattle.std.proofs.Common.{rules, ◌≡◌, ◌∙◌, ap, sym, take}
use Rattle.std.proofs.lemmas.List.{take_more}
use Rattle.live_nodes.specs.Histories.{replay}
use Rattle.fact_store.specs.Facts.{FactSet, join}
use Rattle.held_facts.specs.Facts.{lent}
use Rattle.node_state.specs.States.{State}
use Rattle.farm.proofs.Gathering.{gathered_more, lent_nothing}
use Rattle.farm.proofs.closing.join_facts_of_closed_farm_nodes_by_keys.Goals as goal

pub loop-one-init : goal.loop-one-init
loop-one-init c = c.new-all.ensures ∙ sym (lent_nothing c.args.keys.now)

pub loop-one-preserved : goal.loop-one-preserved
loop-one-preserved c =
    let hs = c.args.closed.now in
    let i = c.loop-one.one-index in
    let h = c.one-item.result in
    let keys = c.args.keys.now in
    let part : c.in_ok-lent.lent ≡ lent (replay h).held.facts keys =
    c.in_ok-lent.ensures ∙ ap (λ (s : FactSet). lent s keys) (c.held.ensures.facts ∙ ap (λ (s : State). s.facts) c.state.ensures) in
    let merged : c.merge.new.self ≡ join c.loop-one.all c.in_ok-lent.lent = search rules in
    rw (take_more hs i h c.loop-one-test.true, sym c.one-item.is)
    (gathered_more c.loop-one.all c.merge.new.self (take i hs) h keys c.loop-one.invariant
    (merged ∙ ap (λ (s : FactSet). join c.loop-one.all s) part))
