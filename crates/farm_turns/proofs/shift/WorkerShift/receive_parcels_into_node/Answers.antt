use Rattle.std.proofs.Common.{◌∙◌}
use Rattle.farm_turns.specs.Calls.{Received}
use Rattle.farm_turns.proofs.Progress.{at_call, at_parcel}
use Rattle.farm_turns.proofs.shift.WorkerShift.receive_parcels_into_node.Goals as goal

pub loop-preserved : goal.loop-preserved
loop-preserved g c =
    let inv = c.loop.invariant in
    let updates = c.in-Some.updates.items in (
      c.in_ok-give_updates_to_node_once_or_twice.ensures.rules ∙ inv.0,
      inv.1,
      λ s at.
          let h = inv.2 s at in
          at_parcel g.P.WorkerPlace.has_log c.loop.self.rules c.args.self.now.rules s h.0 updates c.loop.counter inv.0 h.1
          (c.in_ok-give_updates_to_node_once_or_twice.ensures.given _ (at_call g.P.WorkerPlace.has_log (Received c.loop.self.rules.home updates) _ c.in-Some.ensures.call h.2)),
    )
