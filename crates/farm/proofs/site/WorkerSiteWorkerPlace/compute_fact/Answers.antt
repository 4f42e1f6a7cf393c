use Rattle.std.proofs.lemmas.Result.{IfOk-weaker}
use Rattle.farm.proofs.WorkerCalls.{computes, goes_on}
use Rattle.farm_turns.specs.Calls.{Computed}
use Rattle.farm.proofs.site.WorkerSiteWorkerPlace.compute_fact.Goals as goal

pub returns-clause-call : goal.returns-clause-call
returns-clause-call g c =
    let told = c.make_fact_from_true_facts.ensures in
    IfOk-weaker c.make_fact_from_true_facts.result _ _
    (λ made is. goes_on (Computed c.args.key.now c.args.facts.now made) (λ works. is works.2))
    (computes g.C.NamedCatalog.catalog g.C.NamedFarm.farm _ c.args.self.now.work.now.schedule.now.inlining c.args.key.now c.args.facts.now
    c.make_fact_from_true_facts.result told.is_true told.key told.none)
