use Rattle.std.proofs.Common.{None, Some, refl}
use Rattle.farm.proofs.WorkerCalls.{goes_on, lends, lends_none}
use Rattle.farm_turns.specs.Calls.{Lent}
use Rattle.farm.proofs.site.WorkerSiteWorkerPlace.lend_needed_facts.Goals as goal

pub returns-in-Ok-clause-lent : goal.returns-in-Ok-clause-lent
returns-in-Ok-clause-lent g c =
    let told = c.in-Ok.ensures in
    let keys = c.args.plan.now.needs in
    goes_on (Lent keys (Some c.in-Ok.facts.items)) (λ works.
    lends g.C.NamedCatalog.catalog g.C.NamedFarm.farm _ _ c.needs.result.now keys c.in-Ok.facts.items c.needs.ensures told.lent
    (told.receipt.0, (told.receipt.1, refl)))

pub returns-in-Err-NotHeld-clause-not_held : goal.returns-in-Err-NotHeld-clause-not_held
returns-in-Err-NotHeld-clause-not_held g c =
    let site = c.args.self.now in
    let told = c.in-Err-NotHeld.ensures in
    let keys = c.args.plan.now.needs in
    goes_on (Lent keys None) (λ works.
    lends_none g.C.NamedCatalog.catalog g.C.NamedFarm.farm _ _ c.needs.result.now keys c.in-Err-NotHeld.field-0 c.in-Err-NotHeld.field-0-0
    c.needs.ensures told.asked c.in-Err-NotHeld.field-0-is (rw told.unchanged refl))
