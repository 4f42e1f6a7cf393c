use Rattle.std.proofs.Common.{map, take}
use Rattle.job.specs.Views.{stage_view}
use Rattle.normal_jobs.specs.StandIns.{StandForStages}
use Rattle.normal_jobs.proofs.stages.make_normal_stages.Given as goal

abbrev pub invariant-loop-stage : goal.invariant-loop-stage
invariant-loop-stage l = StandForStages l.known (map stage_view (take l.stage-index l.stages)) (map stage_view l.made.items)
