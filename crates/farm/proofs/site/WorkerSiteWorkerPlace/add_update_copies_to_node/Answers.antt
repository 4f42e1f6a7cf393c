use Rattle.std.proofs.Common.{refl}
use Rattle.std.proofs.lemmas.Result.{on_ok_weaker}
use Rattle.farm.proofs.WorkerCalls.{goes_on, takes}
use Rattle.farm_turns.specs.Calls.{Took}
use Rattle.farm.proofs.site.WorkerSiteWorkerPlace.add_update_copies_to_node.Goals as goal

pub returns : goal.returns
returns g c =
    let old = c.args.self.now.hand.end.receipts.items in
    let new = c.add_updates_to_node.new.self.end.receipts.items in
    on_ok_weaker c.add_updates_to_node.result
    (λ added. goes_on (Took c.args.updates.now) (λ works. (takes old new c.in_ok-copies.copies.items c.args.updates.now c.in_ok-copies.ensures added, refl)))
    c.add_updates_to_node.ensures
