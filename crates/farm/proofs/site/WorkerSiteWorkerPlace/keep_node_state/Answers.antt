use Rattle.std.proofs.Common.{refl}
use Rattle.std.proofs.lemmas.Result.{on_ok_weaker}
use Rattle.farm.proofs.WorkerCalls.{goes_on}
use Rattle.farm_turns.specs.Calls.{Kept}
use Rattle.farm.proofs.site.WorkerSiteWorkerPlace.keep_node_state.Goals as goal

pub returns : goal.returns
returns g c = on_ok_weaker c.keep_or_restart_node.result (λ added. goes_on Kept (λ works. (added, refl))) c.keep_or_restart_node.ensures
