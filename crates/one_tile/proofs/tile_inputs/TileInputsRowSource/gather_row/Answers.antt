use Rattle.std.proofs.Common.{rules, ℕ, ℤ, ◌+ℤ◌, pos, ◌≡◌, refl, sym, ap, subst, ◌∙◌, Some, slice_get, w32, FitsSigned, ◌<◌, length}
use Rattle.std.proofs.lemmas.Int.{to_z-of_z}
use Rattle.domains.specs.Area.{HoldsPoint}
use Rattle.domains.specs.Index.{index_at}
use Rattle.netpbm.specs.Image.{Image}
use Rattle.job.specs.Answers.{grid_of}
use Rattle.job.specs.Kept.{pipeline_in}
use Rattle.job.specs.Views.{stage_view}
use Rattle.job.specs.Values.{sample_at}
use Rattle.job.specs.WellFormed.{picture_area}
use Rattle.one_tile.specs.Local.{local_value}
use Rattle.one_tile.specs.Prepared.{IsBoxed}
use Rattle.one_tile.proofs.InputsAreRead.{plane_body, function_body, of_plane, of_stored, read_plane}
use Rattle.one_tile.proofs.InputsAreRead.{read_stored, given_by, number_by}
use Rattle.one_tile.proofs.StepsRun.{planes_lie}
use Rattle.one_tile.proofs.BoxesAreRead.{some_view, view_holds, view_reads}
use Rattle.tile_eval.specs.Raster.{place_of}
use Rattle.tile_eval.specs.Rows.{at}
use Rattle.one_tile.proofs.tile_inputs.TileInputsRowSource.gather_row.Goals as goal

pub gather_plane_row_for_tile-requires-clause-plane : goal.gather_plane_row_for_tile-requires-clause-plane
gather_plane_row_for_tile-requires-clause-plane g c =
    let tile = c.args.self.now.tile in
    let job = pipeline_in tile.job.now in
    let s = stage_view c.in-Some.found.now in
    subst (λ (p : Image). c.in-Plane.plane < length p.planes) (sym c.picture.ensures)
    (planes_lie job tile.job.now.well c.args.stage c.in-Plane.plane s (sym c.in-Some.ensures)
    (plane_body c.in-Some.found.now c.body.result.now c.in-Plane.plane c.body.ensures c.in-Plane.is)).0

pub gather_plane_row_for_tile-requires-clause-there : goal.gather_plane_row_for_tile-requires-clause-there
gather_plane_row_for_tile-requires-clause-there g c =
    let tile = c.args.self.now.tile in
    let job = pipeline_in tile.job.now in
    let inlining = tile.layout.now.inlining in
    let given = g.K.TileSource.given tile.known.now in
    let Inner : ℕ → ℤ → ℤ → Type 0 = IsBoxed job tile.layout.now given c.args.self.now.boxes in
    let s = stage_view c.in-Some.found.now in
    let row : FitsSigned w32 c.args.row = search rules in
    let there : slice_get job.stages c.args.stage ≡ Some s = sym c.in-Some.ensures in
    rw (to_z-of_z w32 c.args.row row) (λ k h.
    subst (λ (p : Image). HoldsPoint (picture_area p) c.args.row (index_at c.args.col.now (c.args.points.now.col +ℤ pos k)))
    (sym c.picture.ensures)
    ((planes_lie job tile.job.now.well c.args.stage c.in-Plane.plane s there
    (plane_body c.in-Some.found.now c.body.result.now c.in-Plane.plane c.body.ensures c.in-Plane.is)).1 c.args.row
    (index_at c.args.col.now (c.args.points.now.col +ℤ pos k))
    (of_plane job inlining given Inner c.args.stage c.args.row (index_at c.args.col.now (c.args.points.now.col +ℤ pos k)) s
    there (c.requires.there k h) c.in-Plane.plane
    (plane_body c.in-Some.found.now c.body.result.now c.in-Plane.plane c.body.ensures c.in-Plane.is))))

pub gather_row-requires-in-Function-2-clause-there : goal.gather_row-requires-in-Function-2-clause-there
gather_row-requires-in-Function-2-clause-there g c = λ k h.
    let tile = c.args.self.now.tile in
    let job = pipeline_in tile.job.now in
    let inlining = tile.layout.now.inlining in
    let given = g.K.TileSource.given tile.known.now in
    let Inner : ℕ → ℤ → ℤ → Type 0 = IsBoxed job tile.layout.now given c.args.self.now.boxes in
    let s = stage_view c.in-Some.found.now in
    let row : FitsSigned w32 c.args.row = search rules in
    let there : slice_get job.stages c.args.stage ≡ Some s = sym c.in-Some.ensures in
    given_by given (g.K.TileSource.given c.view_supplied_tiles.result.known.now) c.args.stage c.view_supplied_tiles.result.stage (grid_of job s) c.view_supplied_tiles.result.grid
    c.args.row (index_at c.args.col.now (c.args.points.now.col +ℤ pos k)) _ _ (ap g.K.TileSource.given c.view_supplied_tiles.ensures.known)
    c.view_supplied_tiles.ensures.stage c.view_supplied_tiles.ensures.grid (to_z-of_z w32 c.args.row row) refl
    (of_stored job inlining given Inner c.args.stage c.args.row (index_at c.args.col.now (c.args.points.now.col +ℤ pos k)) s
    there (c.requires.there k h) _ _ (function_body c.in-Some.found.now c.body.result.now c.in-Function-2.field-0 c.body.ensures
    c.in-Function-2.is) (sym c.inlined.ensures ∙ c.if-inlined.false))

pub returns-in-Function-2 : goal.returns-in-Function-2
returns-in-Function-2 g c = λ k h.
    let tile = c.args.self.now.tile in
    let job = pipeline_in tile.job.now in
    let inlining = tile.layout.now.inlining in
    let given = g.K.TileSource.given tile.known.now in
    let Inner : ℕ → ℤ → ℤ → Type 0 = IsBoxed job tile.layout.now given c.args.self.now.boxes in
    let s = stage_view c.in-Some.found.now in
    let row : FitsSigned w32 c.args.row = search rules in
    let there : slice_get job.stages c.args.stage ≡ Some s = sym c.in-Some.ensures in
    c.gather_row-in-Function-2.ensures k h
    ∙ number_by given (g.K.TileSource.given c.view_supplied_tiles.result.known.now) c.args.stage c.view_supplied_tiles.result.stage (grid_of job s) c.view_supplied_tiles.result.grid
    c.args.row (index_at c.args.col.now (c.args.points.now.col +ℤ pos k)) _ _ (ap g.K.TileSource.given c.view_supplied_tiles.ensures.known)
    c.view_supplied_tiles.ensures.stage c.view_supplied_tiles.ensures.grid (to_z-of_z w32 c.args.row row) refl
    ∙ sym (read_stored job inlining given (local_value job inlining given) c.args.stage s there c.args.row
    (index_at c.args.col.now (c.args.points.now.col +ℤ pos k)) _ _
    (function_body c.in-Some.found.now c.body.result.now c.in-Function-2.field-0 c.body.ensures c.in-Function-2.is)
    (sym c.inlined.ensures ∙ c.if-inlined.false))

pub returns-in-Plane : goal.returns-in-Plane
returns-in-Plane g c = λ k h.
    let tile = c.args.self.now.tile in
    let job = pipeline_in tile.job.now in
    let inlining = tile.layout.now.inlining in
    let given = g.K.TileSource.given tile.known.now in
    let Inner : ℕ → ℤ → ℤ → Type 0 = IsBoxed job tile.layout.now given c.args.self.now.boxes in
    let s = stage_view c.in-Some.found.now in
    let row : FitsSigned w32 c.args.row = search rules in
    let there : slice_get job.stages c.args.stage ≡ Some s = sym c.in-Some.ensures in
    c.gather_plane_row_for_tile.ensures k h
    ∙ (λ i. sample_at (c.picture.ensures i) c.in-Plane.plane (to_z-of_z w32 c.args.row row i)
    (index_at c.args.col.now (c.args.points.now.col +ℤ pos k)))
    ∙ sym (read_plane job inlining given (local_value job inlining given) c.args.stage s there c.args.row
    (index_at c.args.col.now (c.args.points.now.col +ℤ pos k)) c.in-Plane.plane
    (plane_body c.in-Some.found.now c.body.result.now c.in-Plane.plane c.body.ensures c.in-Plane.is))

pub gather_row-requires-clause-there : goal.gather_row-requires-clause-there
gather_row-requires-clause-there g c =
    let tile = c.args.self.now.tile in
    let job = pipeline_in tile.job.now in
    let given = g.K.TileSource.given tile.known.now in
    let s = stage_view c.in-Some.found.now in
    let row : FitsSigned w32 c.args.row = search rules in
    let there : slice_get job.stages c.args.stage ≡ Some s = sym c.in-Some.ensures in
    let body = function_body c.in-Some.found.now c.body.result.now c.in-Function.field-0 c.body.ensures c.in-Function.is in
    let flag = sym c.inlined.ensures ∙ c.if-inlined.true in
    rw (to_z-of_z w32 c.args.row row) (λ k h.
    view_holds job tile.layout.now given c.args.self.now.boxes c.args.stage s there _ _ body flag c.args.row (index_at c.args.col.now (c.args.points.now.col +ℤ pos k)) (c.requires.there k h) c.in-Some-view_inlined_box.view c.in-Some-view_inlined_box.ensures.some)

pub returns-in-Some-view_inlined_box : goal.returns-in-Some-view_inlined_box
returns-in-Some-view_inlined_box g c = λ k h.
    let tile = c.args.self.now.tile in
    let job = pipeline_in tile.job.now in
    let given = g.K.TileSource.given tile.known.now in
    let s = stage_view c.in-Some.found.now in
    let row : FitsSigned w32 c.args.row = search rules in
    let there : slice_get job.stages c.args.stage ≡ Some s = sym c.in-Some.ensures in
    let body = function_body c.in-Some.found.now c.body.result.now c.in-Function.field-0 c.body.ensures c.in-Function.is in
    let flag = sym c.inlined.ensures ∙ c.if-inlined.true in
    c.gather_row.ensures k h
    ∙ (λ i. at c.in-Some-view_inlined_box.view.values.now (place_of c.in-Some-view_inlined_box.view.area (to_z-of_z w32 c.args.row row i) (index_at c.args.col.now (c.args.points.now.col +ℤ pos k))))
    ∙ view_reads job tile.layout.now given c.args.self.now.boxes c.args.stage s there _ _ body flag c.args.row (index_at c.args.col.now (c.args.points.now.col +ℤ pos k)) (c.requires.there k h) c.in-Some-view_inlined_box.view c.in-Some-view_inlined_box.ensures.some

pub returns-in_default-view_inlined_box : goal.returns-in_default-view_inlined_box
returns-in_default-view_inlined_box g c = λ k h.
    let tile = c.args.self.now.tile in
    let job = pipeline_in tile.job.now in
    let given = g.K.TileSource.given tile.known.now in
    let s = stage_view c.in-Some.found.now in
    let there : slice_get job.stages c.args.stage ≡ Some s = sym c.in-Some.ensures in
    let body = function_body c.in-Some.found.now c.body.result.now c.in-Function.field-0 c.body.ensures c.in-Function.is in
    let flag = sym c.inlined.ensures ∙ c.if-inlined.true in
    absurd (some_view job tile.layout.now given c.args.self.now.boxes c.args.stage s there _ _ body flag c.args.row (index_at c.args.col.now (c.args.points.now.col +ℤ pos k)) (c.requires.there k h) c.in_default-view_inlined_box.ensures.none)
