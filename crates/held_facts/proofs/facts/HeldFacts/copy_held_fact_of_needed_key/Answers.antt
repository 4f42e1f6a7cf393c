use Rattle.std.proofs.lemmas.Result.{err_from_is_err_and}
use Rattle.job.specs.Kept.{pipeline_in}
use Rattle.held_facts.specs.HeldFacts.{IsReady}
use Rattle.std.proofs.Common.{rules, ◌≡◌, [], ◌∷◌, Some, refl, true≢false, sym, ap, ◌∙◌, subst}
use Rattle.std.specs.Option.{option_copied}
use Rattle.std.specs.Prelude.{slice_get}
use Rattle.tile_fact.specs.declared.fact.Fact.{Fact}
use Rattle.held_facts.specs.Facts.{facts_of}
use Rattle.held_facts.proofs.ReadyNeeds.{the_one}
use Rattle.held_facts.proofs.facts.HeldFacts.copy_held_fact_of_needed_key.Goals as goal

pub returns-then-not-is_well_shaped_fact-clause-fault : goal.returns-then-not-is_well_shaped_fact-clause-fault
returns-then-not-is_well_shaped_fact-clause-fault g c =
    let s = c.args.self.now in
    let need = c.args.need.now in
    let there : slice_get (facts_of s need) 0 ≡ Some c.in-Some.fact.now = sym c.find_nth_fact_of_key.ensures ∙ ap option_copied c.in-Some.is in (
      refl,
      record {
        fact = c.in-Some.fact.now;
        alone = the_one s need (sym c.in-One.is ∙ c.classify_fact_count_of_key.ensures) c.in-Some.fact.now there;
        is = λ fits. true≢false (sym (c.is_well_shaped_fact.ensures.1 fits) ∙ c.if-not-is_well_shaped_fact.true);
      },
    )

pub returns-in_ok-clone-in-One-clause-one : goal.returns-in_ok-clone-in-One-clause-one
returns-in_ok-clone-in-One-clause-one g c =
    let s = c.args.self.now in
    let need = c.args.need.now in
    let there : slice_get (facts_of s need) 0 ≡ Some c.in-Some.fact.now = sym c.find_nth_fact_of_key.ensures ∙ ap option_copied c.in-Some.is in
    let same : c.in_ok-clone-in-One.field-0 ≡ c.in-Some.fact.now = search rules in
    subst (λ (f : Fact). facts_of s need ≡ f ∷ []) (sym same) (the_one s need (sym c.in-One.is ∙ c.classify_fact_count_of_key.ensures) c.in-Some.fact.now there)

pub returns-in_err-clone-in-One-clause-fault : goal.returns-in_err-clone-in-One-clause-fault
returns-in_err-clone-in-One-clause-fault g c =
    let s = c.args.self.now in
    let need = c.args.need.now in
    let job = pipeline_in c.args.job.now in
    let there : slice_get (facts_of s need) 0 ≡ Some c.in-Some.fact.now = sym c.find_nth_fact_of_key.ensures ∙ ap option_copied c.in-Some.is in
    let ready : IsReady s job need =
    record {
      fact = c.in-Some.fact.now;
      alone = the_one s need (sym c.in-One.is ∙ c.classify_fact_count_of_key.ensures) c.in-Some.fact.now there;
      is = c.is_well_shaped_fact.ensures.0 (cc);
    } in
    let p = err_from_is_err_and c.from_residual.result c.from_residual.ensures.1 in
    rw (p.1, p.2) (ready)
