use Rattle.std.proofs.Common.{length, sym, ◌≡◌, ◌∙◌, ap}
use Rattle.domains.specs.Area.{points_of}
use Rattle.job.specs.Values.{Valuation, formula_value}
use Rattle.job.specs.Views.{formula_view}
use Rattle.reductions.specs.Bins.{starts}
use Rattle.reductions.proofs.GatherOnto.{first_bins, from_starts}
use Rattle.reductions.proofs.TilesJoinInTurn.{written}
use Rattle.reductions.proofs.gather.compute_area_totals.Goals as goal

pub accumulate_area_into_bins-requires-clause-bins : goal.accumulate_area_into_bins-requires-clause-bins
accumulate_area_into_bins-requires-clause-bins g c =
    first_bins c.args.accumulator.now c.deref_mut.result.now
    (c.deref_mut.ensures.value ∙ c.in_ok-bins.ensures ∙ (λ i. starts (c.fold.ensures i) (c.bins.ensures i)))

pub returns : goal.returns
returns g c =
    let a = c.args.accumulator.now in
    let env : Valuation = g.S.RowSource.samples c.args.source.now in
    let first : c.deref_mut.result.now ≡ starts a.fold a.bins = c.deref_mut.ensures.value ∙ c.in_ok-bins.ensures
    ∙ (λ i. starts (c.fold.ensures i) (c.bins.ensures i)) in
    written c.in_ok-bins.bins.len c.accumulate_area_into_bins.new.bins c.in_ok-bins.bins.items (c.accumulate_area_into_bins.auto.bins ∙ ap length c.deref_mut.ensures.value)
    (sym (c.accumulate_area_into_bins.auto.bins ∙ c.deref_mut.ensures.len))
    ∙ c.accumulate_area_into_bins.ensures
    ∙ from_starts a (formula_value env (formula_view a.value)) (formula_value env (formula_view a.bin)) (points_of c.args.area.now)
    c.deref_mut.result.now first
