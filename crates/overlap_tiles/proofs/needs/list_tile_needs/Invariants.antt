use Rattle.std.proofs.Common.{◌≡◌, map}
use Rattle.std.specs.List.{flat_map, range_with_len}
use Rattle.job.specs.Kept.{pipeline_in}
use Rattle.overlap_tiles.specs.inside.Made.{stage_needs}
use Rattle.overlap_tiles.specs.Views.{need_view}
use Rattle.overlap_tiles.proofs.needs.list_tile_needs.Given as goal

abbrev pub invariant-loop-stage : goal.invariant-loop-stage
invariant-loop-stage l =
    map need_view l.needs.items ≡ flat_map (stage_needs (pipeline_in l.job) l.schedule.inlining l.boxes) (range_with_len 0 l.stage)
