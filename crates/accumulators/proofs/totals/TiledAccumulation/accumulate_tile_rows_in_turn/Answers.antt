use Rattle.std.proofs.Common.{arith, ◌<◌, ◌≤◌, refl}
use Rattle.std.specs.List.{range_with_len}
use Rattle.domains.specs.Tiles.{tile_cols, tile_rows}
use Rattle.job.specs.Kept.{pipeline_in}
use Rattle.accumulators.specs.inside.Making.{with_tile}
use Rattle.reductions.proofs.TilesJoinInTurn.{none_came, row_more, all_came}
use Rattle.accumulators.proofs.totals.TiledAccumulation.accumulate_tile_rows_in_turn.Goals as goal

pub loop-row-init : goal.loop-row-init
loop-row-init c =
    let self = c.args.self.now in (
      c.requires.bins,
      none_came (with_tile (pipeline_in self.of.job.now) self.stage self.accumulator.now.fold self.grid) (tile_rows self.grid)
          (range_with_len 0 (tile_cols self.grid)) c.args.bins.now c.args.bins.now _ refl refl,
    )

pub accumulate_tile_row-requires-clause-bins : goal.accumulate_tile_row-requires-clause-bins
accumulate_tile_row-requires-clause-bins c = c.loop-row.invariant.0

pub loop-row-preserved : goal.loop-row-preserved
loop-row-preserved c =
    let self = c.args.self.now in
    let within : c.loop-row.row < tile_rows self.grid = omega (arith, c.tile_rows-row-end.ensures.number) in (
      c.in_ok-accumulate_tile_row.ensures.are,
      row_more (with_tile (pipeline_in self.of.job.now) self.stage self.accumulator.now.fold self.grid) c.loop-row.row
          (tile_rows self.grid) (range_with_len 0 (tile_cols self.grid)) c.loop-row.bins c.accumulate_tile_row.new.bins _ within
          c.loop-row.invariant.1 c.in_ok-accumulate_tile_row.ensures.bins,
    )

pub returns : goal.returns
returns c =
    let self = c.args.self.now in
    let past : tile_rows self.grid ≤ c.loop-row.row = omega (arith, c.tile_rows-row-end.ensures.number, c.loop-row-test.false) in
    all_came (with_tile (pipeline_in self.of.job.now) self.stage self.accumulator.now.fold self.grid) c.loop-row.row (tile_rows self.grid)
    (range_with_len 0 (tile_cols self.grid)) c.loop-row.bins _ past c.loop-row.invariant.1
