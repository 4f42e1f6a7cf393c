use Rattle.std.proofs.Common.{◌≡◌, ◌-◌}
use Rattle.std.specs.Prelude.{fold}
use Rattle.domains.specs.Tiles.{tile_cols}
use Rattle.job.specs.Kept.{pipeline_in}
use Rattle.reductions.specs.Accumulating.{AreBins}
use Rattle.accumulators.specs.inside.Making.{with_tile}
use Rattle.reductions.proofs.TilesJoinInTurn.{row_of}
use Rattle.accumulators.proofs.totals.TiledAccumulation.accumulate_tile_row.Given as goal

abbrev pub invariant-loop-col : goal.invariant-loop-col
invariant-loop-col l =
    let self = l.fn.self in
    AreBins self.accumulator.now l.bins
    × (fold (with_tile (pipeline_in self.of.job.now) self.stage self.accumulator.now.fold self.grid) l.bins
    (row_of l.fn.row l.col (tile_cols self.grid - l.col))
    ≡ fold (with_tile (pipeline_in self.of.job.now) self.stage self.accumulator.now.fold self.grid) l.initial.bins
    (row_of l.fn.row 0 (tile_cols self.grid)))
