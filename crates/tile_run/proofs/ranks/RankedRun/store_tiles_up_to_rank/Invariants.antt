use Rattle.job.specs.Kept.{pipeline_in}
use Rattle.tile_run.specs.inside.Running.{AreStored}
use Rattle.tile_run.proofs.ranks.RankedRun.store_tiles_up_to_rank.Given as goal

abbrev pub invariant-loop-rank : goal.invariant-loop-rank
invariant-loop-rank g l = AreStored (pipeline_in l.self.job.now) l.self.schedule.now.inlining l.rank l.stored.stages.items
