use Rattle.std.proofs.Common.{refl}
use Rattle.std.proofs.lemmas.Result.{on_ok_weaker}
use Rattle.farm.proofs.WorkerCalls.{goes_on}
use Rattle.farm_turns.specs.Calls.{Took}
use Rattle.farm.proofs.site.WorkerSiteWorkerPlace.add_updates_to_node.Goals as goal

pub returns : goal.returns
returns g c =
    on_ok_weaker c.add_updates_to_node.result (λ added. goes_on (Took c.args.updates.items) (λ works. (added, refl))) c.add_updates_to_node.ensures
