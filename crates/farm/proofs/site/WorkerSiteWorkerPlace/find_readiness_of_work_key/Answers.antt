use Rattle.std.proofs.lemmas.Result.{IfOk-weaker}
use Rattle.farm.proofs.WorkerCalls.{finds, goes_on}
use Rattle.job.specs.Kept.{pipeline_in, program_id_in}
use Rattle.farm.proofs.site.WorkerSiteWorkerPlace.find_readiness_of_work_key.Goals as goal

pub returns : goal.returns
returns g c =
    let work = c.args.self.now.work.now in
    IfOk-weaker c.find_tile_readiness.result _ _
    (λ standing ready. goes_on _ (λ works. finds g.C.NamedCatalog.catalog g.C.NamedFarm.farm _ (program_id_in work.job.now) (pipeline_in work.job.now)
    work.schedule.now.inlining c.args.key.now standing works ready))
    c.find_tile_readiness.ensures
