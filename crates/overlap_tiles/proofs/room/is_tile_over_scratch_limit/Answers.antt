use Rattle.job.specs.Kept.{pipeline_in}
use Rattle.std.proofs.Common.{sym}
use Rattle.overlap_tiles.proofs.TilesAreTargets.{tile_is_target}
use Rattle.overlap_tiles.proofs.room.is_tile_over_scratch_limit.Goals as goal

pub count_scratch_points-requires : goal.count_scratch_points-requires
count_scratch_points-requires c =
    let found = c.in-Some-tile.ensures.some in
    record {
      target = tile_is_target (pipeline_in c.args.job.now) c.args.schedule.now.inlining c.from-stage.result c.args.key.now.row
          c.args.key.now.col c.in-Some-tile.area c.args.job.now.well
          (record { grid = c.in-Some.grid; there = sym c.in-Some.ensures; tile = found.0; is = found.1 });
    }
