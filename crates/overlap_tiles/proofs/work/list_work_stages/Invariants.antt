use Rattle.std.proofs.Common.{◌≡◌, ◌++◌, filter, drop}
use Rattle.job.specs.Kept.{pipeline_in}
use Rattle.tile_boxes.specs.Order.{order_stages_by_rank}
use Rattle.overlap_tiles.specs.Work.{is_stored_or_accumulator_work_stage}
use Rattle.overlap_tiles.proofs.work.list_work_stages.Given as goal

abbrev pub invariant-loop-stage : goal.invariant-loop-stage
invariant-loop-stage l =
    l.made.items ++ filter (is_stored_or_accumulator_work_stage (pipeline_in l.job) l.schedule.inlining) (drop l.stage-index l.stage-items)
    ≡ filter (is_stored_or_accumulator_work_stage (pipeline_in l.job) l.schedule.inlining) (order_stages_by_rank (pipeline_in l.job).stages)
