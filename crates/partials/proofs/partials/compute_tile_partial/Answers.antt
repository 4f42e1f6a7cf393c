use Rattle.std.proofs.Common.{ℕ, List, Bool, ap, ◌∙◌}
use Rattle.domains.proofs.Places.{ok_then}
use Rattle.domains.specs.declared.area.Area.{Area}
use Rattle.job.specs.Kept.{pipeline_in}
use Rattle.overlap_tiles.specs.Views.{step_view}
use Rattle.one_tile.proofs.LayoutsPrepare.{own_layout, by_own}
use Rattle.partials.specs.Partials.{local_totals, AreLocalTotals}
use Rattle.partials.proofs.LastStepIsTile.{last_step, last_is, has_last, only_area}
use Rattle.partials.proofs.partials.compute_tile_partial.Goals as goal

pub compute_last_step_partial_if_any-requires-clause-last : goal.compute_last_step_partial_if_any-requires-clause-last
compute_last_step_partial_if_any-requires-clause-last g c = λ inner last is.
    last_step step_view c.steps.result.now inner last (c.steps.ensures ∙ is) c.in-Some.step.now c.in-Some.ensures.value

pub returns : goal.returns
returns g c =
    let job = pipeline_in c.args.tile.now.job.now in
    let l = c.args.tile.now.layout.now in
    let given = g.K.TileSource.given c.args.tile.now.known.now in
    ok_then c.compute_last_step_partial_if_any.result c.compute_last_step_partial_if_any.ensures (λ bins are inlining k i j is.
    let own = own_layout job inlining given l k i j is in
    by_own job inlining given l k i j is (λ (flags : List Bool). AreLocalTotals job flags given k i j bins.items) (λ area at.
    are
    ∙ ap (λ (x : ℕ × Area). local_totals job l.inlining given x.1 x.0)
    (last_is step_view c.steps.result.now job l.inlining k i j l own c.steps.ensures c.in-Some.step.now c.in-Some.ensures.value)
    ∙ ap (λ (a : Area). local_totals job l.inlining given a k) (only_area job k i j own.area area own.tile at)))

-- there is a last step
pub returns-in_default : goal.returns-in_default
returns-in_default g c =
    let some = c.requires.layout in
    absurd (has_last step_view c.steps.result.now (pipeline_in c.args.tile.now.job.now) some.inlining some.stage some.row some.col
    c.args.tile.now.layout.now some.layout c.steps.ensures c.in_default.ensures.value)
