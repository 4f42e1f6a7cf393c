use contract.BorrowLft.{⊑_static, ⊑_trans}
use Rattle.std.proofs.Common.{◌∙◌, sym}
use Rattle.std.specs.Prelude.{[]}
use Rattle.farm.proofs.WorkerRuns.{run_worked, where_no_error}
use Rattle.farm.specs.WorkerLogs.{no_call}
use Rattle.farm.specs.WorkerRuns.{no_progress}
use Rattle.farm.proofs.worker.FarmWorkerFarmThreadTask.run.Goals as goal

pub new-shift-requires-lives-P-WorkerPlace-3 : goal.new-shift-requires-lives-P-WorkerPlace-3
new-shift-requires-lives-P-WorkerPlace-3 g c κs within = ⊑_trans κs.1.1.0 [] g.row.C.lives (⊑_static κs.1.1.0) c.requires

pub run-requires-lives-P-WorkerPlace-3 : goal.run-requires-lives-P-WorkerPlace-3
run-requires-lives-P-WorkerPlace-3 g c κs within = ⊑_trans κs.1.1.1.0 [] g.row.C.lives (⊑_static κs.1.1.1.0) c.requires

pub returns : goal.returns
returns g c works fresh none =
    let start = c.new-shift.result in
    let begun = c.new-shift.ensures.at [] (works, no_call _ fresh) in
    let ran = where_no_error c.run.result (sym c.is_err-memory.ensures.value ∙ none) c.run.ensures.all no_progress begun in
    run_worked _ c.run.new.self.place c.run.new.self.counts start.rules _ g.C.NamedCatalog.catalog g.C.NamedFarm.farm _ c.new-shift.ensures.rules
    (λ log shown. shown.1) ran
