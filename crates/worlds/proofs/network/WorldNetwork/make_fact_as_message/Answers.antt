use Rattle.std.proofs.Common.{arith, ◌≡◌, ◌<◌, ◌≤◌, ℕ, OnOk, refl, sym, ap, ◌∙◌, subst}
use Rattle.std.proofs.lemmas.Result.{IfOk-weaker}
use Rattle.gossip_core.specs.Steps.{Refuses, with_message}
use Rattle.gossip_events.specs.declared.event.Event.TheVariants.{Make}
use Rattle.node_state.specs.States.{with_fact}
use Rattle.worlds.proofs.OneUpdate.{fact_alone}
use Rattle.worlds.proofs.StepLaws.{made, not_made, not_there}
use Rattle.worlds.proofs.network.WorldNetwork.make_fact_as_message.Goals as goal

pub returns-in-Err-clause-refused : goal.returns-in-Err-clause-refused
returns-in-Err-clause-refused g c =
    subst (Refuses c.args.jobs.now c.args.self.now (Make c.args.n c.args.key.now) c.args.self.now) (sym c.convert_make_fault_to_world_step_fault.ensures)
    (not_made c.args.jobs.now _ _ c.self.view_is c.args.n
    (subst (λ x. c.args.n < x) (c.len.ensures ∙ c.self.inside.nodes.ok.0) c.if-n-len.false) c.args.key.now _ _ c.node.view_is
    c.index-node.ensures c.in-Err.fault c.in-Err.ensures.fault)

pub returns-clause-done : goal.returns-clause-done
returns-clause-done g c =
    IfOk-weaker c.append_message.result _ _ (λ d sent. made c.args.jobs.now _ _ c.self.view_is c.args.n
    (subst (λ x. c.args.n < x) (c.len.ensures ∙ c.self.inside.nodes.ok.0) c.if-n-len.false) c.args.key.now _ _ c.node.view_is
    c.index-node.ensures c.in-Ok.fact c.append_message.new.self c.in-Ok.ensures.made
    (sent ∙ ap (with_message c.args.self.now c.args.n)
    (c.in_ok-take.ensures.added ∙ ap (λ s. with_fact s c.in-Ok.fact) c.new-state.ensures ∙ fact_alone c.in-Ok.fact)))
    c.append_message.ensures.sent

pub returns-then-n-len-clause-refused : goal.returns-then-n-len-clause-refused
returns-then-n-len-clause-refused g c =
    not_there c.args.jobs.now _ _ (Make c.args.n c.args.key.now) c.args.n c.self.view_is (0, omega arith, refl)
    (subst (λ x. x ≤ c.args.n) (c.len.ensures ∙ c.self.inside.nodes.ok.0) c.if-n-len.true)
