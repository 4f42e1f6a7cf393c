use Rattle.std.proofs.Common.{◌≡◌, OnOk, sym, ap, ◌∙◌, subst}
use Rattle.gossip_core.specs.Steps.{Accepts}
use Rattle.gossip_events.specs.declared.event.Event.{Event}
use Rattle.gossip_events.specs.declared.event.Event.TheVariants.{Deliver}
use Rattle.worlds.proofs.network.WorldNetwork.apply_event.Goals as goal

pub returns-in-Deliver-clause-done : goal.returns-in-Deliver-clause-done
returns-in-Deliver-clause-done g c =
    subst (λ (e : Event). OnOk c.deliver_message.result (Accepts c.args.jobs.now c.args.self.now e c.deliver_message.new.self))
    (ap (λ n. Deliver n c.in-Deliver.message) c.from-in-Deliver.ensures ∙ sym c.in-Deliver.is) (c.deliver_message.ensures.done c.args.jobs.now)
