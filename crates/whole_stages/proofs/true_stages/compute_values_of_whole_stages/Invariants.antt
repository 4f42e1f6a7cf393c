use Rattle.std.proofs.Common.{◌≡◌, ℤ, map, take}
use Rattle.std.specs.Global.{Vec}
use Rattle.job.specs.Kept.{pipeline_in}
use Rattle.tile_eval.specs.Raster.{stage_values}
use Rattle.whole_stages.proofs.true_stages.compute_values_of_whole_stages.Given as goal

abbrev pub invariant-loop-stage : goal.invariant-loop-stage
invariant-loop-stage l =
    map (λ (values : Vec ℤ). values.items) l.all.items ≡ map (stage_values (pipeline_in l.job)) (take l.stage-index l.stages)
