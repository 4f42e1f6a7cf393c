use Rattle.std.proofs.Common.{◌≡◌, ℕ, List, Bool, true, sym, ◌∙◌, subst}
use Rattle.std.proofs.lemmas.Bool.{false≢true}
use Rattle.domains.specs.declared.area.Area.{Area}
use Rattle.domains.proofs.Places.{ok_then}
use Rattle.tile_boxes.specs.Schedules.{is_function_stage}
use Rattle.job.specs.Kept.{pipeline_in}
use Rattle.overlap_tiles.specs.Views.{step_view}
use Rattle.one_tile.specs.Runs.{AreLocalOn}
use Rattle.one_tile.proofs.LayoutsPrepare.{own_layout, by_own, layout_steps, layout_values, not_empty}
use Rattle.one_tile.proofs.tile_job.TileJob.compute_values_if_stage_is_function.Goals as goal

pub compute_function_values-requires-clause-last : goal.compute_function_values-requires-clause-last
compute_function_values-requires-clause-last g c = λ inner last is. c.in-Some.ensures.some inner last (c.steps.ensures ∙ is)

pub returns-in-Some-find_tile_step_function : goal.returns-in-Some-find_tile_step_function
returns-in-Some-find_tile_step_function g c =
    let job = pipeline_in c.args.self.now.job.now in
    let l = c.args.self.now.layout.now in
    let given = g.K.TileSource.given c.args.self.now.known.now in
    ok_then c.compute_function_values.result c.compute_function_values.ensures (λ values are inlining k i j is.
    let own = own_layout job inlining given l k i j is in
    let last : ℕ × Area = step_view c.in-Some.last.now in
    let end : last ≡ (k, own.area) = c.in-Some.ensures.some _ _ (c.steps.ensures ∙ layout_steps job l.inlining given l k i j own) in
    by_own job inlining given l k i j is (λ (flags : List Bool). AreLocalOn job flags given k i j values.items)
    (layout_values job l.inlining given l k i j own last values.items end are))

-- the last step is that of a function
pub returns-in-None : goal.returns-in-None
returns-in-None g c =
    let job = pipeline_in c.args.self.now.job.now in
    let l = c.args.self.now.layout.now in
    let given = g.K.TileSource.given c.args.self.now.known.now in
    let some = c.requires.layout in
    let end = c.in-Some.ensures.some _ _ (c.steps.ensures
    ∙ layout_steps job some.inlining given l some.stage some.row some.col some.layout) in
    let function : is_function_stage job c.in-Some.last.now.stage ≡ true =
    subst (λ (s : ℕ × Area). is_function_stage job s.0 ≡ true) (sym end) some.function in
    absurd (false≢true (sym c.in-None.ensures.none ∙ function))

-- there is a last step
pub returns-in_default : goal.returns-in_default
returns-in_default g c =
    let some = c.requires.layout in
    absurd (not_empty c.steps.result.now _ _ c.in_default.ensures.none
    (c.steps.ensures ∙ layout_steps (pipeline_in c.args.self.now.job.now) some.inlining (g.K.TileSource.given c.args.self.now.known.now)
    c.args.self.now.layout.now some.stage some.row some.col some.layout))
