use Rattle.std.proofs.Common.{Some, None, [], ◌∷◌}
use Rattle.std.proofs.lemmas.Result.{on_ok_weaker}
use Rattle.tile_fact.specs.declared.update.Update.TheVariants.{Fact as update}
use Rattle.farm_turns.specs.Calls.{Lent, Made, Took}
use Rattle.farm_turns.specs.Turns.{Nothing_made, Fact_made}
use Rattle.farm_turns.proofs.Progress.{at_call, at_computed}
use Rattle.farm_turns.proofs.shift.WorkerShift.make_and_share_tile.Goals as goal

pub returns-in_default-2-clause-made : goal.returns-in_default-2-clause-made
returns-in_default-2-clause-made g c s at =
    let log = g.P.WorkerPlace.has_log in
    let facts = c.in-Some.facts.items in
    let lent = at_call log (Lent (g.P.WorkerPlace.needs_of c.args.plan.now) (Some facts)) s (rw c.in-Some.is at c.in_ok-facts.ensures.lent) at in (
      Nothing_made facts,
      at_computed log c.args.key.now c.deref.result.now facts c.in_ok-fact.field-0 None _ c.deref.ensures.value c.in_default-2.is c.in_ok-fact.ensures.call lent,
    )

pub returns-clause-made : goal.returns-clause-made
returns-clause-made g c = on_ok_weaker c.send_fact_to_other_nodes.result (λ sent s at.
    let log = g.P.WorkerPlace.has_log in
    let facts = c.in-Some.facts.items in
    let fact = c.in-Some-2.fact in
    let lent = at_call log (Lent (g.P.WorkerPlace.needs_of c.args.plan.now) (Some facts)) s (rw c.in-Some.is at c.in_ok-facts.ensures.lent) at in
    let computed = at_computed log c.args.key.now c.deref.result.now facts c.in_ok-fact.field-0 (Some fact) _ c.deref.ensures.value c.in-Some-2.is c.in_ok-fact.ensures.call lent in
    let made = at_call log (Made c.args.self.now.rules.number c.args.turn fact) _ c.report_fact.ensures computed in
    let took = at_call log (Took (update fact ∷ [])) _ c.in_ok-add_fact_to_node.ensures made in
    (Fact_made facts fact, sent _ took)) c.send_fact_to_other_nodes.ensures.sent
