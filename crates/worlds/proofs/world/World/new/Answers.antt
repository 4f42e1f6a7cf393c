use Rattle.std.proofs.Common.{◌≡◌, ℕ, length, sym, ap, ◌∙◌, subst}
use Rattle.gossip_core.specs.Histories.{start}
use Rattle.gossip_core.specs.Networks.{Network}
use Rattle.gossip_core.specs.Steps.{WorldWork}
use Rattle.worlds.specs.Worlds.{IsWorld}
use Rattle.worlds.proofs.WorldLaws.{world_start}
use Rattle.worlds.proofs.world.World.new.Goals as goal

pub invariant_of-result : goal.invariant_of-result
invariant_of-result g c =
    subst (IsWorld c.new-in-Ok.result)
    (sym (c.in-Ok.ensures ∙ ap start (c.len.ensures ∙ c.args.schedules.ok.0
    ∙ ap (λ (u : WorldWork). length u.schedules) (sym c.new-in-Ok.ensures.same)))) (world_start c.new-in-Ok.result c.new-in-Ok.ensures.good)

pub returns-in-Ok-clause-truth : goal.returns-in-Ok-clause-truth
returns-in-Ok-clause-truth g c = (invariant_of-result g c).truth
