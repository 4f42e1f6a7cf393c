use Rattle.std.proofs.Common.{arith, ◌≡◌, ◌<◌, ◌≤◌, ℕ, OnOk, refl, sym, ap, ◌∙◌, subst}
use Rattle.std.proofs.lemmas.Result.{IfOk-weaker}
use Rattle.gossip_core.specs.Steps.{with_message}
use Rattle.gossip_events.specs.declared.event.Event.TheVariants.{Retire}
use Rattle.node_state.specs.States.{with_retired}
use Rattle.worlds.proofs.OneUpdate.{retirement_alone}
use Rattle.worlds.proofs.StepLaws.{not_there, retired}
use Rattle.worlds.proofs.network.WorldNetwork.append_retirement_message_to_own_node.Goals as goal

pub returns-then-n-len-clause-refused : goal.returns-then-n-len-clause-refused
returns-then-n-len-clause-refused g c u =
    not_there u _ _ (Retire c.args.n c.args.ids.now) c.args.n c.self.view_is (0, omega arith, refl)
    (subst (λ x. x ≤ c.args.n) (c.len.ensures ∙ c.self.inside.nodes.ok.0) c.if-n-len.true)

pub returns-clause-done : goal.returns-clause-done
returns-clause-done g c u =
    IfOk-weaker c.append_message.result _ _ (λ d sent. retired u _ _ c.self.view_is c.args.n
    (subst (λ x. c.args.n < x) (c.len.ensures ∙ c.self.inside.nodes.ok.0) c.if-n-len.false) c.args.ids.now c.append_message.new.self
    (sent ∙ ap (with_message c.args.self.now c.args.n)
    (c.in_ok-retire.ensures.retired ∙ ap (λ s. with_retired s c.args.ids.now) c.new-state.ensures ∙ retirement_alone c.args.ids.now)))
    c.append_message.ensures.sent
