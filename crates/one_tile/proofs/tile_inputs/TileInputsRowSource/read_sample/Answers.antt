use Rattle.std.proofs.Common.{rules, ℕ, ℤ, ◌≡◌, sym, subst, ◌∙◌, Some, slice_get, w32, FitsSigned, ◌<◌, length}
use Rattle.std.proofs.lemmas.Int.{to_z-of_z}
use Rattle.domains.specs.Area.{HoldsPoint}
use Rattle.netpbm.specs.Image.{Image}
use Rattle.job.specs.Kept.{pipeline_in}
use Rattle.job.specs.Views.{stage_view}
use Rattle.job.specs.WellFormed.{picture_area}
use Rattle.one_tile.specs.Prepared.{IsBoxed}
use Rattle.one_tile.proofs.InputsAreRead.{plane_body, function_body, of_plane}
use Rattle.one_tile.proofs.StepsRun.{planes_lie}
use Rattle.one_tile.proofs.BoxesAreRead.{some_view, view_holds, view_reads}
use Rattle.tile_eval.specs.Raster.{place_of}
use Rattle.tile_eval.specs.Rows.{at}
use Rattle.one_tile.proofs.tile_inputs.TileInputsRowSource.read_sample.Goals as goal

pub read_plane_sample_for_tile-requires-clause-plane : goal.read_plane_sample_for_tile-requires-clause-plane
read_plane_sample_for_tile-requires-clause-plane g c =
    let tile = c.args.self.now.tile in
    let job = pipeline_in tile.job.now in
    let s = stage_view c.in-Some.found.now in
    subst (λ (p : Image). c.in-Plane.plane < length p.planes) (sym c.picture.ensures)
    (planes_lie job tile.job.now.well c.args.stage c.in-Plane.plane s (sym c.in-Some.ensures)
    (plane_body c.in-Some.found.now c.body.result.now c.in-Plane.plane c.body.ensures c.in-Plane.is)).0

pub read_plane_sample_for_tile-requires-clause-there : goal.read_plane_sample_for_tile-requires-clause-there
read_plane_sample_for_tile-requires-clause-there g c =
    let tile = c.args.self.now.tile in
    let job = pipeline_in tile.job.now in
    let inlining = tile.layout.now.inlining in
    let given = g.K.TileSource.given tile.known.now in
    let Inner : ℕ → ℤ → ℤ → Type 0 = IsBoxed job tile.layout.now given c.args.self.now.boxes in
    let s = stage_view c.in-Some.found.now in
    let row : FitsSigned w32 c.args.row = search rules in
    let col : FitsSigned w32 c.args.col = search rules in
    let there : slice_get job.stages c.args.stage ≡ Some s = sym c.in-Some.ensures in
    rw (to_z-of_z w32 c.args.row row) (rw (to_z-of_z w32 c.args.col col)
    (subst (λ (p : Image). HoldsPoint (picture_area p) c.args.row c.args.col) (sym c.picture.ensures)
    ((planes_lie job tile.job.now.well c.args.stage c.in-Plane.plane s there
    (plane_body c.in-Some.found.now c.body.result.now c.in-Plane.plane c.body.ensures c.in-Plane.is)).1 c.args.row c.args.col
    (of_plane job inlining given Inner c.args.stage c.args.row c.args.col s there c.requires c.in-Plane.plane
    (plane_body c.in-Some.found.now c.body.result.now c.in-Plane.plane c.body.ensures c.in-Plane.is)))))

pub read_sample-requires : goal.read_sample-requires
read_sample-requires g c =
    let tile = c.args.self.now.tile in
    let job = pipeline_in tile.job.now in
    let given = g.K.TileSource.given tile.known.now in
    let s = stage_view c.in-Some.found.now in
    let row : FitsSigned w32 c.args.row = search rules in
    let col : FitsSigned w32 c.args.col = search rules in
    let there : slice_get job.stages c.args.stage ≡ Some s = sym c.in-Some.ensures in
    let body = function_body c.in-Some.found.now c.body.result.now c.in-Function.field-0 c.body.ensures c.in-Function.is in
    let flag = sym c.inlined.ensures ∙ c.if-inlined.true in
    rw (to_z-of_z w32 c.args.row row) (rw (to_z-of_z w32 c.args.col col)
    (view_holds job tile.layout.now given c.args.self.now.boxes c.args.stage s there _ _ body flag c.args.row c.args.col c.requires c.in-Some-view_inlined_box.view c.in-Some-view_inlined_box.ensures.some))

pub returns-in-Some-view_inlined_box : goal.returns-in-Some-view_inlined_box
returns-in-Some-view_inlined_box g c =
    let tile = c.args.self.now.tile in
    let job = pipeline_in tile.job.now in
    let given = g.K.TileSource.given tile.known.now in
    let s = stage_view c.in-Some.found.now in
    let row : FitsSigned w32 c.args.row = search rules in
    let col : FitsSigned w32 c.args.col = search rules in
    let there : slice_get job.stages c.args.stage ≡ Some s = sym c.in-Some.ensures in
    let body = function_body c.in-Some.found.now c.body.result.now c.in-Function.field-0 c.body.ensures c.in-Function.is in
    let flag = sym c.inlined.ensures ∙ c.if-inlined.true in
    let fits : FitsSigned w32 c.read_sample.result = search rules in
    to_z-of_z w32 c.read_sample.result fits ∙ c.read_sample.ensures
    ∙ (λ i. at c.in-Some-view_inlined_box.view.values.now (place_of c.in-Some-view_inlined_box.view.area (to_z-of_z w32 c.args.row row i)
    (to_z-of_z w32 c.args.col col i)))
    ∙ view_reads job tile.layout.now given c.args.self.now.boxes c.args.stage s there _ _ body flag c.args.row c.args.col c.requires c.in-Some-view_inlined_box.view c.in-Some-view_inlined_box.ensures.some

pub returns-in-None : goal.returns-in-None
returns-in-None g c =
    let tile = c.args.self.now.tile in
    let job = pipeline_in tile.job.now in
    let given = g.K.TileSource.given tile.known.now in
    let s = stage_view c.in-Some.found.now in
    let there : slice_get job.stages c.args.stage ≡ Some s = sym c.in-Some.ensures in
    let body = function_body c.in-Some.found.now c.body.result.now c.in-Function.field-0 c.body.ensures c.in-Function.is in
    let flag = sym c.inlined.ensures ∙ c.if-inlined.true in
    absurd (some_view job tile.layout.now given c.args.self.now.boxes c.args.stage s there _ _ body flag c.args.row c.args.col c.requires c.in-None.ensures.none)
