use Rattle.std.proofs.Common.{◌≡◌, ℕ, ℤ, List, map, length, sym, subst, ap, ◌∙◌}
use Rattle.std.specs.Prelude.{fold}
use Rattle.std.specs.List.{range_with_len}
use Rattle.domains.specs.Tiles.{tile_cols}
use Rattle.job.specs.Kept.{pipeline_in}
use Rattle.reductions.specs.Bins.{starts}
use Rattle.reductions.specs.Accumulating.{AreBins}
use Rattle.accumulators.specs.inside.Making.{with_tile}
use Rattle.reductions.proofs.GatherOnto.{first_bins}
use Rattle.reductions.proofs.TilesJoinInTurn.{written}
use Rattle.accumulators.proofs.totals.TiledAccumulation.compute_totals_of_one_tile_row.Goals as goal

pub accumulate_tile_row-requires-clause-bins : goal.accumulate_tile_row-requires-clause-bins
accumulate_tile_row-requires-clause-bins c =
    first_bins c.args.self.now.accumulator.now c.deref_mut.result.now
    (c.deref_mut.ensures.value ∙ c.in_ok-bins.ensures ∙ (λ i. starts (c.fold.ensures i) (c.bins.ensures i)))

pub returns : goal.returns
returns c =
    let self = c.args.self.now in
    let a = self.accumulator.now in
    let kept = written c.in_ok-bins.bins.len c.accumulate_tile_row.new.bins c.in_ok-bins.bins.items (c.accumulate_tile_row.auto.bins
    ∙ ap length c.deref_mut.ensures.value) (sym (c.accumulate_tile_row.auto.bins ∙ c.deref_mut.ensures.len)) in
    let first : c.deref_mut.result.now ≡ starts a.fold a.bins = c.deref_mut.ensures.value ∙ c.in_ok-bins.ensures
    ∙ (λ i. starts (c.fold.ensures i) (c.bins.ensures i)) in
    record {
      are = subst (AreBins a) (sym kept) c.in_ok-accumulate_tile_row.ensures.are;
      totals =
          kept ∙ c.in_ok-accumulate_tile_row.ensures.bins
          ∙ ap (λ (xs : List ℤ). fold (with_tile (pipeline_in self.of.job.now) self.stage a.fold self.grid) xs
          (map (λ (j : ℕ). (c.args.row, j)) (range_with_len 0 (tile_cols self.grid)))) first;
    }
