use Rattle.std.proofs.Common.{rules, ◌≡◌, ℤ, List, ◌∷◌, [], sym, ap, ◌∙◌, w32, to_z, of_z, FitsSigned, length}
use Rattle.std.specs.Prelude.{fold}
use Rattle.std.proofs.lemmas.Int.{to_z-of_z}
use Rattle.domains.specs.Span.{Ends}
use Rattle.domains.specs.Tiles.{tiles_of}
use Rattle.job.specs.Kept.{pipeline_in}
use Rattle.job.specs.Totals.{totals}
use Rattle.reductions.specs.Bins.{starts}
use Rattle.accumulators.specs.inside.Making.{with_tile}
use Rattle.reductions.proofs.GatherOnto.{first_bins}
use Rattle.reductions.proofs.TilesJoinInTurn.{written}
use Rattle.accumulators.proofs.TotalsOfAnswer.{all_joined, gathers}
use Rattle.accumulators.proofs.totals.TiledAccumulation.compute_accumulator_total.Goals as goal

pub accumulate_all_tiles_into_bins-requires-clause-bins : goal.accumulate_all_tiles_into_bins-requires-clause-bins
accumulate_all_tiles_into_bins-requires-clause-bins g c κs within =
    first_bins c.args.self.now.accumulator.now c.deref_mut.result.now
    (c.deref_mut.ensures.value ∙ c.in_ok-bins.ensures ∙ (λ i. starts (c.fold.ensures i) (c.bins.ensures i)))

pub returns : goal.returns
returns g c =
    let self = c.args.self.now in
    let a = self.accumulator.now in
    let job = pipeline_in self.of.job.now in
    let first : c.deref_mut.result.now ≡ starts a.fold a.bins = c.deref_mut.ensures.value ∙ c.in_ok-bins.ensures
    ∙ (λ i. starts (c.fold.ensures i) (c.bins.ensures i)) in
    let all : c.accumulate_all_tiles_into_bins.new.bins ≡ totals job self.stage = c.in_ok-accumulate_all_tiles_into_bins.ensures
    ∙ ap (λ (xs : List ℤ). fold (with_tile job self.stage a.fold self.grid) xs (tiles_of self.grid)) first
    ∙ all_joined job self.stage a.fold a.bins self.grid c.requires.gathered self.of.job.now.well in
    let kept = written c.in_ok-bins.bins.len c.accumulate_all_tiles_into_bins.new.bins c.in_ok-bins.bins.items (c.accumulate_all_tiles_into_bins.auto.bins ∙ ap length c.deref_mut.ensures.value)
    (sym (c.accumulate_all_tiles_into_bins.auto.bins ∙ c.deref_mut.ensures.len)) ∙ all in
    let fits : FitsSigned w32 c.lo.result = search rules in
    let lo : to_z w32 (of_z w32 c.lo.result) ≡ a.bins.lo = to_z-of_z w32 c.lo.result fits ∙ c.lo.ensures.end
    ∙ ap (λ (e : Ends). e.lo) c.bins-2.ensures in
    gathers job self.stage a.fold a.bins self.grid c.requires.gathered
    ∙ (λ i. record {
      stage = self.stage;
      lo = sym lo i;
      bins = sym kept i;
    } ∷ [])
