use Rattle.std.proofs.Common.{◌≡◌, ◌-◌}
use Rattle.std.specs.Prelude.{fold}
use Rattle.std.specs.List.{range_with_len}
use Rattle.domains.specs.Pairs.{pairs}
use Rattle.domains.specs.Tiles.{tile_cols, tile_rows, tiles_of}
use Rattle.job.specs.Kept.{pipeline_in}
use Rattle.reductions.specs.Accumulating.{AreBins}
use Rattle.accumulators.specs.inside.Making.{with_tile}
use Rattle.accumulators.proofs.totals.TiledAccumulation.accumulate_tile_rows_in_turn.Given as goal

abbrev pub invariant-loop-row : goal.invariant-loop-row
invariant-loop-row l =
    let self = l.fn.self in
    AreBins self.accumulator.now l.bins
    × (fold (with_tile (pipeline_in self.of.job.now) self.stage self.accumulator.now.fold self.grid) l.bins
    (pairs (range_with_len l.row (tile_rows self.grid - l.row)) (range_with_len 0 (tile_cols self.grid)))
    ≡ fold (with_tile (pipeline_in self.of.job.now) self.stage self.accumulator.now.fold self.grid) l.initial.bins
    (tiles_of self.grid))
