use Rattle.std.proofs.Common.{◌≡◌, find, filter, drop}
use Rattle.std.specs.List.{flat_map}
use Rattle.job.specs.Answers.{tiles}
use Rattle.job.specs.Kept.{pipeline_in}
use Rattle.overlap_tiles.specs.Work.{is_tile_over_scratch_limit}
use Rattle.tile_run.specs.Work.{wanted_by}
use Rattle.tile_run.proofs.room.find_oversized_tile_key_in_stages.Given as goal

abbrev pub invariant-loop-number : goal.invariant-loop-number
invariant-loop-number l =
    find (is_tile_over_scratch_limit (pipeline_in l.job) l.schedule.inlining)
    (flat_map (tiles (pipeline_in l.job)) (filter (wanted_by (pipeline_in l.job) l.schedule.inlining l.work)
    (drop l.number-index l.order)))
    ≡ find (is_tile_over_scratch_limit (pipeline_in l.job) l.schedule.inlining)
    (flat_map (tiles (pipeline_in l.job)) (filter (wanted_by (pipeline_in l.job) l.schedule.inlining l.work) l.order))
