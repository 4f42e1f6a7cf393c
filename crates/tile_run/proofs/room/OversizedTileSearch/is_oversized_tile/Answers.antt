use Rattle.job.specs.Kept.{pipeline_in}
use Rattle.overlap_tiles.proofs.TilesAreTargets.{tile_is_target}
use Rattle.tile_run.proofs.room.OversizedTileSearch.is_oversized_tile.Goals as goal

pub count_scratch_points-requires : goal.count_scratch_points-requires
count_scratch_points-requires c =
    let found = c.in-Some.ensures.some in
    record {
      target = tile_is_target (pipeline_in c.args.self.now.job.now) c.args.self.now.schedule.now.inlining c.args.self.now.stage c.args.row
          c.args.col c.in-Some.area c.args.self.now.job.now.well
          (record { grid = c.args.self.now.grid; there = c.args.self.now.parted; tile = found.0; is = found.1 });
    }
