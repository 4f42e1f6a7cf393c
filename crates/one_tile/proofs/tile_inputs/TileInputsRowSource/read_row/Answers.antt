use Rattle.std.proofs.Common.{rules, ℕ, ℤ, ◌+ℤ◌, pos, ◌≡◌, sym, ap, ◌∙◌, Some, slice_get, w32, FitsSigned}
use Rattle.std.proofs.lemmas.Int.{to_z-of_z}
use Rattle.job.specs.Answers.{grid_of}
use Rattle.job.specs.Kept.{pipeline_in}
use Rattle.job.specs.Views.{stage_view}
use Rattle.one_tile.specs.Local.{local_value}
use Rattle.one_tile.specs.Prepared.{IsBoxed}
use Rattle.one_tile.proofs.InputsAreRead.{plane_body, function_body, of_plane}
use Rattle.one_tile.proofs.InputsAreRead.{of_stored, read_stored, given_by, number_by}
use Rattle.one_tile.proofs.StepsRun.{planes_lie}
use Rattle.one_tile.proofs.BoxesAreRead.{some_view, view_holds, view_reads}
use Rattle.tile_eval.specs.Raster.{place_of}
use Rattle.tile_eval.specs.Rows.{at}
use Rattle.one_tile.proofs.tile_inputs.TileInputsRowSource.read_row.Goals as goal

pub copy_plane_row-requires-clause-plane : goal.copy_plane_row-requires-clause-plane
copy_plane_row-requires-clause-plane g c =
    let tile = c.args.self.now.tile in
    let job = pipeline_in tile.job.now in
    let s = stage_view c.in-Some.found.now in
    (planes_lie job tile.job.now.well c.args.stage c.in-Plane.plane s (sym c.in-Some.ensures)
    (plane_body c.in-Some.found.now c.body.result.now c.in-Plane.plane c.body.ensures c.in-Plane.is)).0

pub copy_plane_row-requires-clause-there : goal.copy_plane_row-requires-clause-there
copy_plane_row-requires-clause-there g c =
    let tile = c.args.self.now.tile in
    let job = pipeline_in tile.job.now in
    let inlining = tile.layout.now.inlining in
    let given = g.K.TileSource.given tile.known.now in
    let Inner : ℕ → ℤ → ℤ → Type 0 = IsBoxed job tile.layout.now given c.args.self.now.boxes in
    let s = stage_view c.in-Some.found.now in
    let row : FitsSigned w32 c.args.row = search rules in
    let first : FitsSigned w32 c.args.first = search rules in
    let there : slice_get job.stages c.args.stage ≡ Some s = sym c.in-Some.ensures in
    let body = plane_body c.in-Some.found.now c.body.result.now c.in-Plane.plane c.body.ensures c.in-Plane.is in
    rw (to_z-of_z w32 c.args.row row) (rw (to_z-of_z w32 c.args.first first) (λ k h.
    (planes_lie job tile.job.now.well c.args.stage c.in-Plane.plane s there body).1 c.args.row (c.args.first +ℤ pos k)
    (of_plane job inlining given Inner c.args.stage c.args.row (c.args.first +ℤ pos k) s there (c.requires k h) c.in-Plane.plane body)))

pub read_row-requires-in-Function-2 : goal.read_row-requires-in-Function-2
read_row-requires-in-Function-2 g c = λ k h.
    let tile = c.args.self.now.tile in
    let job = pipeline_in tile.job.now in
    let inlining = tile.layout.now.inlining in
    let given = g.K.TileSource.given tile.known.now in
    let Inner : ℕ → ℤ → ℤ → Type 0 = IsBoxed job tile.layout.now given c.args.self.now.boxes in
    let s = stage_view c.in-Some.found.now in
    let row : FitsSigned w32 c.args.row = search rules in
    let first : FitsSigned w32 c.args.first = search rules in
    let there : slice_get job.stages c.args.stage ≡ Some s = sym c.in-Some.ensures in
    given_by given (g.K.TileSource.given c.view_supplied_tiles.result.known.now) c.args.stage c.view_supplied_tiles.result.stage (grid_of job s) c.view_supplied_tiles.result.grid
    c.args.row (c.args.first +ℤ pos k) _ _ (ap g.K.TileSource.given c.view_supplied_tiles.ensures.known) c.view_supplied_tiles.ensures.stage c.view_supplied_tiles.ensures.grid
    (to_z-of_z w32 c.args.row row) (ap (λ (z : ℤ). z +ℤ pos k) (to_z-of_z w32 c.args.first first))
    (of_stored job inlining given Inner c.args.stage c.args.row (c.args.first +ℤ pos k) s there (c.requires k h) _ _
    (function_body c.in-Some.found.now c.body.result.now c.in-Function-2.field-0 c.body.ensures c.in-Function-2.is)
    (sym c.inlined.ensures ∙ c.if-inlined.false))

pub returns-in-Function-2 : goal.returns-in-Function-2
returns-in-Function-2 g c = λ k h.
    let tile = c.args.self.now.tile in
    let job = pipeline_in tile.job.now in
    let inlining = tile.layout.now.inlining in
    let given = g.K.TileSource.given tile.known.now in
    let Inner : ℕ → ℤ → ℤ → Type 0 = IsBoxed job tile.layout.now given c.args.self.now.boxes in
    let s = stage_view c.in-Some.found.now in
    let row : FitsSigned w32 c.args.row = search rules in
    let first : FitsSigned w32 c.args.first = search rules in
    let there : slice_get job.stages c.args.stage ≡ Some s = sym c.in-Some.ensures in
    c.read_row-in-Function-2.ensures k h
    ∙ number_by given (g.K.TileSource.given c.view_supplied_tiles.result.known.now) c.args.stage c.view_supplied_tiles.result.stage (grid_of job s) c.view_supplied_tiles.result.grid
    c.args.row (c.args.first +ℤ pos k) _ _ (ap g.K.TileSource.given c.view_supplied_tiles.ensures.known) c.view_supplied_tiles.ensures.stage c.view_supplied_tiles.ensures.grid
    (to_z-of_z w32 c.args.row row) (ap (λ (z : ℤ). z +ℤ pos k) (to_z-of_z w32 c.args.first first))
    ∙ sym (read_stored job inlining given (local_value job inlining given) c.args.stage s there c.args.row
    (c.args.first +ℤ pos k) _ _ (function_body c.in-Some.found.now c.body.result.now c.in-Function-2.field-0 c.body.ensures
    c.in-Function-2.is) (sym c.inlined.ensures ∙ c.if-inlined.false))

pub read_row-requires : goal.read_row-requires
read_row-requires g c =
    let tile = c.args.self.now.tile in
    let job = pipeline_in tile.job.now in
    let given = g.K.TileSource.given tile.known.now in
    let s = stage_view c.in-Some.found.now in
    let row : FitsSigned w32 c.args.row = search rules in
    let first : FitsSigned w32 c.args.first = search rules in
    let there : slice_get job.stages c.args.stage ≡ Some s = sym c.in-Some.ensures in
    let body = function_body c.in-Some.found.now c.body.result.now c.in-Function.field-0 c.body.ensures c.in-Function.is in
    let flag = sym c.inlined.ensures ∙ c.if-inlined.true in
    rw (to_z-of_z w32 c.args.row row) (rw (to_z-of_z w32 c.args.first first) (λ k h.
    view_holds job tile.layout.now given c.args.self.now.boxes c.args.stage s there _ _ body flag c.args.row (c.args.first +ℤ pos k) (c.requires k h) c.in-Some-view_inlined_box.view c.in-Some-view_inlined_box.ensures.some))

pub returns-in-Some-view_inlined_box : goal.returns-in-Some-view_inlined_box
returns-in-Some-view_inlined_box g c = λ k h.
    let tile = c.args.self.now.tile in
    let job = pipeline_in tile.job.now in
    let given = g.K.TileSource.given tile.known.now in
    let s = stage_view c.in-Some.found.now in
    let row : FitsSigned w32 c.args.row = search rules in
    let first : FitsSigned w32 c.args.first = search rules in
    let there : slice_get job.stages c.args.stage ≡ Some s = sym c.in-Some.ensures in
    let body = function_body c.in-Some.found.now c.body.result.now c.in-Function.field-0 c.body.ensures c.in-Function.is in
    let flag = sym c.inlined.ensures ∙ c.if-inlined.true in
    c.read_row.ensures k h
    ∙ (λ i. at c.in-Some-view_inlined_box.view.values.now (place_of c.in-Some-view_inlined_box.view.area (to_z-of_z w32 c.args.row row i)
    (to_z-of_z w32 c.args.first first i +ℤ pos k)))
    ∙ view_reads job tile.layout.now given c.args.self.now.boxes c.args.stage s there _ _ body flag c.args.row (c.args.first +ℤ pos k) (c.requires k h) c.in-Some-view_inlined_box.view c.in-Some-view_inlined_box.ensures.some

pub returns-in_default-view_inlined_box : goal.returns-in_default-view_inlined_box
returns-in_default-view_inlined_box g c = λ k h.
    let tile = c.args.self.now.tile in
    let job = pipeline_in tile.job.now in
    let given = g.K.TileSource.given tile.known.now in
    let s = stage_view c.in-Some.found.now in
    let there : slice_get job.stages c.args.stage ≡ Some s = sym c.in-Some.ensures in
    let body = function_body c.in-Some.found.now c.body.result.now c.in-Function.field-0 c.body.ensures c.in-Function.is in
    let flag = sym c.inlined.ensures ∙ c.if-inlined.true in
    absurd (some_view job tile.layout.now given c.args.self.now.boxes c.args.stage s there _ _ body flag c.args.row (c.args.first +ℤ pos k) (c.requires k h) c.in_default-view_inlined_box.ensures.none)
