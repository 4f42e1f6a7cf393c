use Rattle.std.proofs.Common.{ap, ◌∙◌}
use Rattle.domains.specs.declared.area.Area.{Area}
use Rattle.job.specs.Kept.{pipeline_in}
use Rattle.tile_run.specs.Stored.{stored_tiles}
use Rattle.reductions.specs.Bins.{joined_bins}
use Rattle.partials.specs.Partials.{local_totals}
use Rattle.reductions.proofs.GatherOnto.{on_ok}
use Rattle.partials.proofs.LastStepIsTile.{only_area}
use Rattle.accumulators.proofs.TileTotals.{totals_are}
use Rattle.tile_sources.proofs.GivenLines.{whole}
use Rattle.accumulators.proofs.TotalsOfAnswer.{is_wanted}
use Rattle.accumulators.proofs.totals.TiledAccumulation.accumulate_one_tile.Goals as goal

pub invariant_of-tile : goal.invariant_of-tile
invariant_of-tile c =
    let of = c.args.self.now.of in
    let job = pipeline_in of.job.now in
    record {
      whole = whole job (stored_tiles of.stored.now.stages.items) c.requires.tally.computed.values;
    }

pub accumulate_tile_partial-requires-clause-layout : goal.accumulate_tile_partial-requires-clause-layout
accumulate_tile_partial-requires-clause-layout c =
    let self = c.args.self.now in
    record {
      inlining = self.of.schedule.now.inlining;
      stage = self.stage;
      row = c.args.row;
      col = c.args.col;
      layout =
          c.in_ok-layout.ensures;
    }

pub accumulate_tile_partial-requires-clause-needs : goal.accumulate_tile_partial-requires-clause-needs
accumulate_tile_partial-requires-clause-needs c =
    let self = c.args.self.now in
    let tally = c.requires.tally in
    tally.computed.needs self.stage
    (is_wanted (pipeline_in self.of.job.now) self.stage self.accumulator.now.fold self.accumulator.now.bins self.grid tally.gathered) c.args.row c.args.col
    c.in_ok-layout.layout c.in_ok-layout.ensures

pub returns : goal.returns
returns c =
    let self = c.args.self.now in
    let of = self.of in
    let job = pipeline_in of.job.now in
    let given = stored_tiles of.stored.now.stages.items in
    let tally = c.requires.tally in
    let way = self.accumulator.now.fold in
    let inlining = of.schedule.now.inlining in
    let is = c.in_ok-layout.ensures in
    on_ok c.accumulate_tile_partial.result c.accumulate_tile_partial.ensures.ok (λ took.
    took inlining self.stage c.args.row c.args.col is is.area is.tile
    ∙ ap (joined_bins way c.args.bins.now)
    (totals_are job self.stage way self.accumulator.now.bins self.grid tally.gathered c.args.row c.args.col inlining given of.job.now.well
    (tally.computed.needs self.stage (is_wanted job self.stage way self.accumulator.now.bins self.grid tally.gathered))
    c.in_ok-layout.layout is tally.computed.values (local_totals job inlining given is.area self.stage) (λ area at.
    ap (λ (a : Area). local_totals job inlining given a self.stage)
    (only_area job self.stage c.args.row c.args.col is.area area is.tile at))))
