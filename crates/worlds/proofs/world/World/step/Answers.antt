use Rattle.std.proofs.Common.{◌≡◌, refl, sym, subst, inl}
use Rattle.std.proofs.lemmas.Result.{IfOk-weaker}
use Rattle.gossip_core.specs.Histories.{Leads}
use Rattle.worlds.specs.Worlds.{WorldView}
use Rattle.worlds.proofs.WorldLaws.{world_after}
use Rattle.worlds.proofs.world.World.step.Goals as goal

pub invariant_of-self : goal.invariant_of-self
invariant_of-self g c =
    world_after c.self.inside.jobs c.self.inside.network c.apply_event.new.self c.args.event.now c.apply_event.result c.self.invariant c.apply_event.ensures.done
    c.apply_event.ensures.refused

pub returns-clause-truth : goal.returns-clause-truth
returns-clause-truth g c =
    (world_after c.self.inside.jobs c.self.inside.network c.apply_event.new.self c.args.event.now c.apply_event.result c.self.invariant
    c.apply_event.ensures.done
    c.apply_event.ensures.refused).truth

pub returns-clause-led : goal.returns-clause-led
returns-clause-led g c size h accepted leads =
    IfOk-weaker c.apply_event.result _ _ (λ d ok. (
      c.self.inside.network,
      accepted,
      subst (λ (v : WorldView). Leads v.work size h accepted v.network) (sym c.self.view_is) leads,
      inl (ok, refl),
    )) c.apply_event.ensures.done
