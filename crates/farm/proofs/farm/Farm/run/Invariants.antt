use Rattle.farm.specs.WorkerRuns.{farm_of_job}
use Rattle.farm.proofs.farm.Farm.run.Given as goal

-- the catalog that was handed in
abbrev pub ghosts-run_farm_to_closed_farm_nodes-C-NamedCatalog : goal.ghosts-run_farm_to_closed_farm_nodes-C-NamedCatalog
ghosts-run_farm_to_closed_farm_nodes-C-NamedCatalog g a = record { catalog = a.catalog.now }

-- the history that was just begun
abbrev pub ghosts-run_farm_to_closed_farm_nodes-C-NamedDesk : goal.ghosts-run_farm_to_closed_farm_nodes-C-NamedDesk
ghosts-run_farm_to_closed_farm_nodes-C-NamedDesk g a = record { book = a.log.seen.book }

-- the farm that works at the planned job
abbrev pub ghosts-run_farm_to_closed_farm_nodes-C-NamedFarm : goal.ghosts-run_farm_to_closed_farm_nodes-C-NamedFarm
ghosts-run_farm_to_closed_farm_nodes-C-NamedFarm g a =
    record { farm = farm_of_job a.plan.now.job.now a.plan.now.schedule.now.inlining a.setup.now }
