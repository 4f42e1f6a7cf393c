use Rattle.std.proofs.Common.{sym, ap, ◌≡◌, ◌∙◌, length}
use Rattle.domains.specs.Area.{points_of}
use Rattle.job.specs.Kept.{pipeline_in}
use Rattle.job.specs.Totals.{body_totals}
use Rattle.job.specs.Values.{Valuation, formula_value}
use Rattle.job.specs.Views.{formula_view}
use Rattle.one_tile.specs.Local.{read_from, local_value}
use Rattle.reductions.specs.Bins.{starts, joined_bins}
use Rattle.reductions.proofs.GatherOnto.{first_bins, from_starts}
use Rattle.partials.proofs.PartialsJoin.{local_totals_is}
use Rattle.reductions.proofs.TilesJoinInTurn.{written}
use Rattle.partials.proofs.partials.compute_last_step_partial_of_accumulator.Goals as goal

pub accumulate_last_step_partial-requires-clause-bins : goal.accumulate_last_step_partial-requires-clause-bins
accumulate_last_step_partial-requires-clause-bins g c =
    first_bins c.args.accumulator.now c.deref_mut.result.now
    (c.deref_mut.ensures.value ∙ c.in_ok-bins.ensures ∙ (λ i. starts (c.fold.ensures i) (c.bins.ensures i)))

pub returns : goal.returns
returns g c =
    let t = c.args.tile.now in
    let job = pipeline_in t.job.now in
    let inlining = t.layout.now.inlining in
    let given = g.K.TileSource.given t.known.now in
    let step = c.args.step.now in
    let a = c.args.accumulator.now in
    let own = c.requires.accumulator in
    let env : Valuation = read_from job inlining given (local_value job inlining given) in
    let local = local_totals_is job inlining given step.area step.stage own.stage own.there ∙ ap (body_totals env step.area) own.body in
    let first : c.deref_mut.result.now ≡ starts a.fold a.bins = c.deref_mut.ensures.value ∙ c.in_ok-bins.ensures
    ∙ (λ i. starts (c.fold.ensures i) (c.bins.ensures i)) in
    written c.in_ok-bins.bins.len c.accumulate_last_step_partial.new.bins c.in_ok-bins.bins.items (c.accumulate_last_step_partial.auto.bins ∙ ap length c.deref_mut.ensures.value)
    (sym (c.accumulate_last_step_partial.auto.bins ∙ c.deref_mut.ensures.len))
    ∙ c.in_ok-accumulate_last_step_partial.ensures.ok
    ∙ ap (joined_bins a.fold c.deref_mut.result.now) local
    ∙ from_starts a (formula_value env (formula_view a.value)) (formula_value env (formula_view a.bin)) (points_of step.area)
    c.deref_mut.result.now first
    ∙ sym local
