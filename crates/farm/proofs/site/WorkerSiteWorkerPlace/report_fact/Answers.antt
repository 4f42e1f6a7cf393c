use Rattle.std.proofs.Common.{refl}
use Rattle.farm.proofs.WorkerCalls.{goes_on}
use Rattle.farm_turns.specs.Calls.{Made}
use Rattle.farm.proofs.site.WorkerSiteWorkerPlace.report_fact.Goals as goal

pub returns : goal.returns
returns g c = goes_on (Made c.args.worker c.args.turn c.args.fact.now) (λ works. refl)
