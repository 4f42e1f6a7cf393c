use Rattle.job.specs.Kept.{pipeline_in}
use Rattle.overlap_tiles.proofs.TilesAreTargets.{tile_is_target}
use Rattle.overlap_tiles.proofs.layout.TileLayout.new.Goals as goal

pub boxes-requires : goal.boxes-requires
boxes-requires c =
    record {
      target =
          tile_is_target (pipeline_in c.args.job.now) c.args.schedule.now.inlining c.args.stage c.args.row c.args.col c.in-Some.area
          c.args.job.now.well c.in-Some.ensures.some;
    }
