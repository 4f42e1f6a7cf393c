use Rattle.std.proofs.Common.{◌≡◌, ◌++◌, map, drop}
use Rattle.std.specs.List.{flat_map}
use Rattle.job.specs.Answers.{tiles}
use Rattle.job.specs.Kept.{pipeline_in, program_id_in}
use Rattle.overlap_tiles.specs.Needs.{key_of}
use Rattle.overlap_tiles.proofs.work.list_work_keys_of_tiles_of_stages.Given as goal

abbrev pub invariant-loop-stage : goal.invariant-loop-stage
invariant-loop-stage l =
    l.keys.items
    ++ map (key_of (program_id_in l.job) (pipeline_in l.job)) (flat_map (tiles (pipeline_in l.job)) (drop l.stage-index l.stages))
    ≡ map (key_of (program_id_in l.job) (pipeline_in l.job)) (flat_map (tiles (pipeline_in l.job)) l.stages)
