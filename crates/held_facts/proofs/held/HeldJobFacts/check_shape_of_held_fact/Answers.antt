use Rattle.std.proofs.Common.{refl, ap, sym, ◌∙◌}
use Rattle.std.specs.Option.{option_copied}
use Rattle.std.proofs.lemmas.Bool.{true≢false}
use Rattle.fact_audit.specs.Shapes.{FitsJob}
use Rattle.job.specs.Kept.{pipeline_in}
use Rattle.held_facts.proofs.OneHeld.{one_read, one_there}
use Rattle.held_facts.proofs.held.HeldJobFacts.check_shape_of_held_fact.Goals as goal
use Rattle.held_facts.proofs.held.HeldJobFacts.check_shape_of_held_fact.Goals.{in_default-via-in-Some+else-is_well_shaped_fact, in_default-via-in_default}

pub returns-in-Some-clause-ready : goal.returns-in-Some-clause-ready
returns-in-Some-clause-ready g c =
    one_read c.args.self.now.state.now c.args.key.now (λ fact. FitsJob fact (pipeline_in c.args.self.now.job.now)) c.in-Some.fact.now
    c.requires
    (sym c.find_nth_fact_of_key.ensures ∙ ap option_copied c.in-Some.is) (c.is_well_shaped_fact.ensures.0 c.if-is_well_shaped_fact.true)

pub returns-in_default-clause-fault : goal.returns-in_default-clause-fault
returns-in_default-clause-fault g c =
    let s = c.args.self.now.state.now in
    let key = c.args.key.now in
    elim c.in_default.branch [
      | in_default-via-in-Some+else-is_well_shaped_fact w ↦ (
        refl,
        one_read s key (λ fact. ¬ FitsJob fact (pipeline_in c.args.self.now.job.now)) w.in-Some.fact.now c.requires
            (sym c.find_nth_fact_of_key.ensures ∙ ap option_copied w.in-Some.is)
            (λ fits. true≢false (sym (w.is_well_shaped_fact.ensures.1 fits) ∙ w.if-is_well_shaped_fact.false)),
      )
      | in_default-via-in_default w ↦ absurd (one_there s key c.requires (sym c.find_nth_fact_of_key.ensures ∙ ap option_copied w.in_default.is))
    ]
