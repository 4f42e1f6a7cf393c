use Rattle.std.proofs.Common.{◌≡◌, length, sym, ap, ◌∙◌, subst}
use Rattle.catalog.specs.Entries.{entry_of}
use Rattle.gossip_core.specs.Finishing.{makings}
use Rattle.worlds.specs.Worlds.{IsWorld, WorldView}
use Rattle.worlds.proofs.FinishLaws.{finishes}
use Rattle.worlds.proofs.world.World.finish.Goals as goal

pub returns-clause-finishes : goal.returns-clause-finishes
returns-clause-finishes g c =
    let w = c.args.self.now in
    let p = c.in_ok-planned.planned in
    finishes w c.args.n c.args.job (entry_of p.job.now) p.schedule.now.inlining p.held.now c.in_ok-planned.ensures.planned
    c.in_ok-planned.ensures.held c.in_ok-planned.ensures.live (subst (λ (v : WorldView). IsWorld v.work v.network) c.self.view_is c.self.invariant)
    c.in_ok-planned.ensures.there.0 c.in_ok-keys.keys.items c.in_ok-keys.ensures.keys c.in_ok-keys.ensures.room
    c.in_ok-list_make_and_deliver_events_to_finish.field-0.items
    (c.in_ok-list_make_and_deliver_events_to_finish.ensures
    ∙ ap (λ k. makings c.args.n k c.deref.result.now) (c.count_messages.ensures ∙ ap (λ (v : WorldView). length v.network.messages) c.self.view_is)
    ∙ ap (makings c.args.n (length w.network.messages)) c.deref.ensures.value)
