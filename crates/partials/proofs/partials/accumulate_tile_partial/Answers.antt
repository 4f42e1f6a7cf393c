use Rattle.std.proofs.Common.{ℕ, List, Bool, ap, sym, subst, ◌∙◌}
use Rattle.reductions.proofs.GatherOnto.{on_ok}
use Rattle.domains.specs.declared.area.Area.{Area}
use Rattle.job.specs.Kept.{pipeline_in}
use Rattle.overlap_tiles.specs.Views.{step_view}
use Rattle.one_tile.proofs.LayoutsPrepare.{own_layout, by_own}
use Rattle.reductions.specs.Bins.{joined_bins}
use Rattle.partials.specs.Partials.{local_totals}
use Rattle.reductions.specs.GatherRooms.{IsAccumulatorOf}
use Rattle.partials.specs.Partials.{TookLocalTotals}
use Rattle.partials.proofs.LastStepIsTile.{last_is, only_area}
use Rattle.partials.proofs.partials.accumulate_tile_partial.Goals as goal

pub accumulate_last_step_partial-requires-clause-accumulator : goal.accumulate_last_step_partial-requires-clause-accumulator
accumulate_last_step_partial-requires-clause-accumulator g c =
    let job = pipeline_in c.args.tile.now.job.now in
    let some = c.requires.layout in
    subst (λ (x : ℕ × Area). IsAccumulatorOf job x.0 c.args.accumulator.now)
    (sym (last_is step_view c.steps.result.now job some.inlining some.stage some.row some.col c.args.tile.now.layout.now some.layout
    c.steps.ensures c.in-Some.step.now c.in-Some.ensures.value))
    (c.requires.accumulator some.inlining some.stage some.row some.col some.layout)

pub returns-clause-ok : goal.returns-clause-ok
returns-clause-ok g c =
    let job = pipeline_in c.args.tile.now.job.now in
    let l = c.args.tile.now.layout.now in
    let given = g.K.TileSource.given c.args.tile.now.known.now in
    let way = c.args.accumulator.now.fold in
    let old = c.args.bins.now in
    let new = c.accumulate_last_step_partial.new.bins in
    on_ok c.accumulate_last_step_partial.result c.accumulate_last_step_partial.ensures.ok (λ joined inlining k i j is.
    let own = own_layout job inlining given l k i j is in
    by_own job inlining given l k i j is (λ (flags : List Bool). TookLocalTotals job flags given k i j way old new) (λ area at.
    joined
    ∙ ap (λ (x : ℕ × Area). joined_bins way old (local_totals job l.inlining given x.1 x.0))
    (last_is step_view c.steps.result.now job l.inlining k i j l own c.steps.ensures c.in-Some.step.now c.in-Some.ensures.value)
    ∙ ap (λ (a : Area). joined_bins way old (local_totals job l.inlining given a k)) (only_area job k i j own.area area own.tile at)))
