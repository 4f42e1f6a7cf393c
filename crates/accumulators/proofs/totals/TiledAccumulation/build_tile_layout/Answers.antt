use Rattle.std.proofs.Common.{subst}
use Rattle.job.specs.Kept.{pipeline_in}
use Rattle.overlap_tiles.specs.Plans.{IsPlanFault}
use Rattle.accumulators.proofs.TileTotals.{has_tile, not_too_big}
use Rattle.accumulators.proofs.totals.TiledAccumulation.build_tile_layout.Goals as goal

pub unreachable-requires : goal.unreachable-requires
unreachable-requires c =
    let self = c.args.self.now in
    subst (IsPlanFault (pipeline_in self.of.job.now) self.of.schedule.now.inlining self.stage c.args.row c.args.col)
    c.in-Err-NoSuchTile.field-0-is c.in-Err-NoSuchTile.ensures.fault
    (has_tile (pipeline_in self.of.job.now) self.stage self.accumulator.now.fold self.accumulator.now.bins self.grid c.requires.tally.gathered c.args.row c.args.col
    c.requires.tile)

pub unreachable-requires-in-Err-ScratchTooBig : goal.unreachable-requires-in-Err-ScratchTooBig
unreachable-requires-in-Err-ScratchTooBig c =
    let self = c.args.self.now in
    not_too_big (pipeline_in self.of.job.now) self.stage self.accumulator.now.fold self.accumulator.now.bins self.grid c.requires.tally.gathered c.args.row c.args.col
    self.of.schedule.now.inlining c.requires.tally.fits c.requires.tile
    (subst (IsPlanFault (pipeline_in self.of.job.now) self.of.schedule.now.inlining self.stage c.args.row c.args.col)
    c.in-Err-ScratchTooBig.field-0-is c.in-Err-ScratchTooBig.ensures.fault)
