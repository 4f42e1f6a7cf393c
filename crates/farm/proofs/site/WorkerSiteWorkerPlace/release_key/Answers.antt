use Rattle.std.proofs.Common.{refl}
use Rattle.farm.proofs.WorkerCalls.{goes_on}
use Rattle.farm_turns.specs.Calls.{Released}
use Rattle.farm.proofs.site.WorkerSiteWorkerPlace.release_key.Goals as goal

pub returns : goal.returns
returns g c = goes_on (Released c.args.time c.args.worker c.args.key.now) (λ works. (c.release.result, c.release.ensures.answer, refl))
