use Rattle.std.proofs.Common.{arith, ◌<◌}
use Rattle.domains.specs.Tiles.{tile_area, tile_cols}
use Rattle.job.specs.Kept.{pipeline_in}
use Rattle.job.specs.Totals.{totals_over}
use Rattle.accumulators.specs.inside.Making.{with_tile}
use Rattle.reductions.proofs.GatherOnto.{joined_are_bins}
use Rattle.reductions.proofs.TilesJoinInTurn.{tile_more}
use Rattle.accumulators.proofs.totals.TiledAccumulation.accumulate_tile_row.Goals as goal

pub accumulate_one_tile-requires-clause-bins : goal.accumulate_one_tile-requires-clause-bins
accumulate_one_tile-requires-clause-bins c = c.loop-col.invariant.0

pub loop-col-preserved : goal.loop-col-preserved
loop-col-preserved c =
    let self = c.args.self.now in
    let job = pipeline_in self.of.job.now in
    let within : c.loop-col.col < tile_cols self.grid = omega (arith, c.tile_cols-col-end.ensures.number) in (
      joined_are_bins self.accumulator.now c.loop-col.bins (totals_over job (tile_area self.grid c.args.row c.loop-col.col) self.stage)
          c.accumulate_one_tile.new.bins c.loop-col.invariant.0 c.accumulate_one_tile.auto.bins c.in_ok-accumulate_one_tile.ensures,
      tile_more (with_tile job self.stage self.accumulator.now.fold self.grid) c.args.row c.loop-col.col (tile_cols self.grid)
          c.loop-col.bins c.accumulate_one_tile.new.bins _ within c.loop-col.invariant.1 c.in_ok-accumulate_one_tile.ensures,
    )
