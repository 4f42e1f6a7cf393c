use Rattle.std.proofs.Common.{◌≡◌, sym, ◌∙◌, subst, ap, false, List}
use Rattle.std.specs.Prelude.{All}
use Rattle.fact_store.proofs.SetLaws.{facts_rise}
use Rattle.identity.specs.declared.job_ids.JobId.{JobId}
use Rattle.tile_fact.specs.FactFile.{is_retired}
use Rattle.tile_fact.specs.Order.{IdsRise, Rises}
use Rattle.tile_fact.specs.declared.fact.Fact.{Fact}
use Rattle.node_state.proofs.ExportLaws.{facts_apart, ids_rise}
use Rattle.node_state.specs.States.{facts_in, retired_in}
use Rattle.node_state.proofs.state.NodeState.export.Goals as goal

pub encode-requires-clause-ids_rise : goal.encode-requires-clause-ids_rise
encode-requires-clause-ids_rise g c = subst IdsRise (sym c.retired-retired.ensures.ids) (ids_rise c.args.self.now.retired)

pub encode-requires-clause-rise : goal.encode-requires-clause-rise
encode-requires-clause-rise g c = subst Rises (sym (c.deref.ensures.value ∙ c.in_ok-facts.ensures)) (facts_rise c.self.inside.held)

pub encode-requires-clause-apart : goal.encode-requires-clause-apart
encode-requires-clause-apart g c =
    let facts : c.deref.result.now ≡ facts_in c.args.self.now =
    c.deref.ensures.value ∙ c.in_ok-facts.ensures ∙ ap facts_in c.self.view_is in
    subst (λ (ids : List JobId). All (λ fact. is_retired ids fact ≡ false) c.deref.result.now) (sym c.retired-retired.ensures.ids)
    (subst (λ (fs : List Fact). All (λ fact. is_retired (retired_in c.args.self.now) fact ≡ false) fs) (sym facts)
    (facts_apart c.args.self.now c.retired-retired.ensures.state))
