use Rattle.std.proofs.Common.{refl}
use Rattle.farm.proofs.WorkerCalls.{goes_on}
use Rattle.farm_turns.specs.Calls.{Entered}
use Rattle.farm.proofs.site.WorkerSiteWorkerPlace.announce_turn.Goals as goal

pub returns : goal.returns
returns g c = goes_on (Entered c.args.worker c.args.turn) (λ works. refl)
