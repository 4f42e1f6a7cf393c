use Rattle.job.specs.Kept.{pipeline_in}
use Rattle.tile_run.proofs.RunAllStores.{AreStoredTo}
use Rattle.tile_run.proofs.ranks.RankedRun.store_tiles_of_rank.Given as goal

abbrev pub invariant-loop-number : goal.invariant-loop-number
invariant-loop-number g l =
    AreStoredTo (pipeline_in l.self.job.now) l.self.schedule.now.inlining l.rank l.number l.stored.stages.items
