use Rattle.std.proofs.Common.{rules, ℕ, ℤ, ◌+ℤ◌, pos, ◌≡◌, sym, ap, ◌∙◌, Some, slice_get, w32, FitsSigned}
use Rattle.std.proofs.lemmas.Int.{to_z-of_z}
use Rattle.job.specs.Answers.{grid_of}
use Rattle.job.specs.Kept.{pipeline_in}
use Rattle.job.specs.Values.{sample_at}
use Rattle.job.specs.Views.{stage_view}
use Rattle.one_tile.specs.Local.{local_value}
use Rattle.one_tile.specs.Prepared.{IsBoxed}
use Rattle.one_tile.proofs.InputsAreRead.{plane_body, function_body, of_stored, read_plane, read_stored, given_by, number_by}
use Rattle.tile_sources.proofs.PlanesAreWide.{some_then}
use Rattle.tile_sources.proofs.PlanesAreWide.{some_both}
use Rattle.one_tile.proofs.BoxesAreRead.{view_holds, view_reads}
use Rattle.tile_eval.specs.Raster.{place_of}
use Rattle.tile_eval.specs.Rows.{at}
use Rattle.one_tile.proofs.tile_inputs.TileInputsRowSource.borrow_row.Goals as goal

pub borrow_row-requires : goal.borrow_row-requires
borrow_row-requires g c = λ k h.
    let tile = c.args.self.now.tile in
    let job = pipeline_in tile.job.now in
    let inlining = tile.layout.now.inlining in
    let given = g.K.TileSource.given tile.known.now in
    let Inner : ℕ → ℤ → ℤ → Type 0 = IsBoxed job tile.layout.now given c.args.self.now.boxes in
    let s = stage_view c.in_ok-found.found.now in
    let row : FitsSigned w32 c.args.row = search rules in
    let first : FitsSigned w32 c.args.first = search rules in
    let there : slice_get job.stages c.args.stage ≡ Some s = sym c.in_ok-found.ensures in
    given_by given (g.K.TileSource.given c.view_supplied_tiles.result.known.now) c.args.stage c.view_supplied_tiles.result.stage (grid_of job s) c.view_supplied_tiles.result.grid
    c.args.row (c.args.first +ℤ pos k) _ _ (ap g.K.TileSource.given c.view_supplied_tiles.ensures.known) c.view_supplied_tiles.ensures.stage c.view_supplied_tiles.ensures.grid
    (to_z-of_z w32 c.args.row row) (ap (λ (z : ℤ). z +ℤ pos k) (to_z-of_z w32 c.args.first first))
    (of_stored job inlining given Inner c.args.stage c.args.row (c.args.first +ℤ pos k) s there (c.requires k h) _ _
    (function_body c.in_ok-found.found.now c.body.result.now c.in-Function-2.field-0 c.body.ensures c.in-Function-2.is)
    (sym c.inlined.ensures ∙ c.if-inlined.false))

pub returns-in-Function-2 : goal.returns-in-Function-2
returns-in-Function-2 g c =
    let tile = c.args.self.now.tile in
    let job = pipeline_in tile.job.now in
    let inlining = tile.layout.now.inlining in
    let given = g.K.TileSource.given tile.known.now in
    let Inner : ℕ → ℤ → ℤ → Type 0 = IsBoxed job tile.layout.now given c.args.self.now.boxes in
    let s = stage_view c.in_ok-found.found.now in
    let row : FitsSigned w32 c.args.row = search rules in
    let first : FitsSigned w32 c.args.first = search rules in
    let there : slice_get job.stages c.args.stage ≡ Some s = sym c.in_ok-found.ensures in
    some_then c.borrow_row.result c.borrow_row.ensures (λ line is. (
      is.0,
      λ k h.
          is.1 k h
          ∙ number_by given (g.K.TileSource.given c.view_supplied_tiles.result.known.now) c.args.stage c.view_supplied_tiles.result.stage (grid_of job s)
          c.view_supplied_tiles.result.grid c.args.row (c.args.first +ℤ pos k) _ _ (ap g.K.TileSource.given c.view_supplied_tiles.ensures.known) c.view_supplied_tiles.ensures.stage
          c.view_supplied_tiles.ensures.grid (to_z-of_z w32 c.args.row row) (ap (λ (z : ℤ). z +ℤ pos k) (to_z-of_z w32 c.args.first first))
          ∙ sym (read_stored job inlining given (local_value job inlining given) c.args.stage s there c.args.row
          (c.args.first +ℤ pos k) _ _ (function_body c.in_ok-found.found.now c.body.result.now c.in-Function-2.field-0 c.body.ensures
          c.in-Function-2.is) (sym c.inlined.ensures ∙ c.if-inlined.false)),
    ))

pub slice_row-requires : goal.slice_row-requires
slice_row-requires g c =
    let tile = c.args.self.now.tile in
    let job = pipeline_in tile.job.now in
    let given = g.K.TileSource.given tile.known.now in
    let s = stage_view c.in_ok-found.found.now in
    let row : FitsSigned w32 c.args.row = search rules in
    let first : FitsSigned w32 c.args.first = search rules in
    let there : slice_get job.stages c.args.stage ≡ Some s = sym c.in_ok-found.ensures in
    let body = function_body c.in_ok-found.found.now c.body.result.now c.in-Function.field-0 c.body.ensures c.in-Function.is in
    let flag = sym c.inlined.ensures ∙ c.if-inlined.true in
    rw (to_z-of_z w32 c.args.row row) (rw (to_z-of_z w32 c.args.first first) (λ k h.
    view_holds job tile.layout.now given c.args.self.now.boxes c.args.stage s there _ _ body flag c.args.row (c.args.first +ℤ pos k) (c.requires k h) c.in-Some.view c.in-Some.ensures.some))

pub returns-in-Some : goal.returns-in-Some
returns-in-Some g c =
    let tile = c.args.self.now.tile in
    let job = pipeline_in tile.job.now in
    let given = g.K.TileSource.given tile.known.now in
    let s = stage_view c.in_ok-found.found.now in
    let row : FitsSigned w32 c.args.row = search rules in
    let first : FitsSigned w32 c.args.first = search rules in
    let there : slice_get job.stages c.args.stage ≡ Some s = sym c.in_ok-found.ensures in
    let body = function_body c.in_ok-found.found.now c.body.result.now c.in-Function.field-0 c.body.ensures c.in-Function.is in
    let flag = sym c.inlined.ensures ∙ c.if-inlined.true in (
      c.slice_row.ensures.count,
      λ k h.
          c.slice_row.ensures.values k h
          ∙ (λ i. at c.in-Some.view.values.now (place_of c.in-Some.view.area (to_z-of_z w32 c.args.row row i)
          (to_z-of_z w32 c.args.first first i +ℤ pos k)))
          ∙ view_reads job tile.layout.now given c.args.self.now.boxes c.args.stage s there _ _ body flag c.args.row (c.args.first +ℤ pos k) (c.requires k h) c.in-Some.view c.in-Some.ensures.some,
    )

pub returns-in-Plane : goal.returns-in-Plane
returns-in-Plane g c =
    let tile = c.args.self.now.tile in
    let job = pipeline_in tile.job.now in
    let inlining = tile.layout.now.inlining in
    let given = g.K.TileSource.given tile.known.now in
    let s = stage_view c.in_ok-found.found.now in
    let row : FitsSigned w32 c.args.row = search rules in
    let first : FitsSigned w32 c.args.first = search rules in
    let there : slice_get job.stages c.args.stage ≡ Some s = sym c.in_ok-found.ensures in
    let body = plane_body c.in_ok-found.found.now c.body.result.now c.in-Plane.plane c.body.ensures c.in-Plane.is in
    some_then c.borrow_plane_row.result
    (some_both _ _ c.borrow_plane_row.result c.borrow_plane_row.ensures.count (c.borrow_plane_row.ensures.samples job.picture c.args.self.now.wide)) (λ line is. (
      is.0,
      λ k h.
          is.1 k h
          ∙ (λ i. sample_at job.picture c.in-Plane.plane (to_z-of_z w32 c.args.row row i) (to_z-of_z w32 c.args.first first i +ℤ pos k))
          ∙ sym (read_plane job inlining given (local_value job inlining given) c.args.stage s there c.args.row
          (c.args.first +ℤ pos k) c.in-Plane.plane body),
    ))
