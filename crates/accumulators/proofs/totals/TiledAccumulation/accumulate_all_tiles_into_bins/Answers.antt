use Rattle.std.proofs.Common.{ℤ, map, sym, subst, ap, ◌∙◌, Vec, Global}
use Rattle.std.specs.Prelude.{fold, All}
use Rattle.std.specs.List.{range_with_len}
use Rattle.domains.specs.Tiles.{tile_area, tile_cols, tile_rows}
use Rattle.job.specs.Kept.{pipeline_in}
use Rattle.job.specs.Totals.{totals_over}
use Rattle.reductions.specs.Bins.{joined_bins, starts}
use Rattle.reductions.specs.Accumulating.{AreBins}
use Rattle.accumulators.proofs.RowsJoin.{rows_join}
use Rattle.accumulators.proofs.totals.TiledAccumulation.accumulate_all_tiles_into_bins.Goals as goal

pub join_all_lists_into_bins-requires : goal.join_all_lists_into_bins-requires
join_all_lists_into_bins-requires g c =
    let are = subst (All (λ (bins : Vec ℤ Global). AreBins c.args.self.now.accumulator.now bins.items)) (sym c.deref.ensures.value) c.in_ok-all.ensures.are in
    λ k d within. (are k d within).count ∙ sym c.requires.bins.count

pub returns : goal.returns
returns g c =
    let self = c.args.self.now in
    let a = self.accumulator.now in
    c.join_all_lists_into_bins.ensures
    ∙ (λ i. fold (joined_bins (c.fold.ensures i)) c.args.bins.now
    (map (λ (bins : Vec ℤ Global). bins.items) (c.deref.ensures.value i)))
    ∙ ap (fold (joined_bins a.fold) c.args.bins.now) c.in_ok-all.ensures.totals
    ∙ rows_join a.fold (λ t. totals_over (pipeline_in self.of.job.now) (tile_area self.grid t.0 t.1) self.stage) (starts a.fold a.bins)
    c.args.bins.now c.requires.bins.kept (range_with_len 0 (tile_rows self.grid)) (range_with_len 0 (tile_cols self.grid))
