use Rattle.std.proofs.Common.{rules, ℕ, ℤ, ◌+ℤ◌, pos, ◌≡◌, sym, ◌∙◌, Some, slice_get, w32, FitsSigned}
use Rattle.std.proofs.lemmas.Int.{to_z-of_z}
use Rattle.job.specs.Kept.{pipeline_in}
use Rattle.job.specs.Values.{sample_at}
use Rattle.job.specs.Views.{stage_view}
use Rattle.one_tile.specs.Local.{local_value}
use Rattle.one_tile.specs.Prepared.{IsBoxed}
use Rattle.one_tile.proofs.InputsAreRead.{plane_body, of_plane, read_plane}
use Rattle.one_tile.proofs.StepsRun.{planes_lie}
use Rattle.tile_sources.proofs.PlanesAreWide.{some_then, some_both}
use Rattle.one_tile.proofs.tile_inputs.TileInputsRowSource.borrow_byte_row.Goals as goal

pub borrow_plane_bytes-requires-clause-plane : goal.borrow_plane_bytes-requires-clause-plane
borrow_plane_bytes-requires-clause-plane g c =
    let tile = c.args.self.now.tile in
    let job = pipeline_in tile.job.now in
    let s = stage_view c.in_ok-found.found.now in
    (planes_lie job tile.job.now.well c.args.stage c.in-Plane.plane s (sym c.in_ok-found.ensures)
    (plane_body c.in_ok-found.found.now c.body.result.now c.in-Plane.plane c.body.ensures c.in-Plane.is)).0

pub borrow_plane_bytes-requires-clause-there : goal.borrow_plane_bytes-requires-clause-there
borrow_plane_bytes-requires-clause-there g c =
    let tile = c.args.self.now.tile in
    let job = pipeline_in tile.job.now in
    let inlining = tile.layout.now.inlining in
    let given = g.K.TileSource.given tile.known.now in
    let Inner : ℕ → ℤ → ℤ → Type 0 = IsBoxed job tile.layout.now given c.args.self.now.boxes in
    let s = stage_view c.in_ok-found.found.now in
    let row : FitsSigned w32 c.args.row = search rules in
    let first : FitsSigned w32 c.args.first = search rules in
    let there : slice_get job.stages c.args.stage ≡ Some s = sym c.in_ok-found.ensures in
    let body = plane_body c.in_ok-found.found.now c.body.result.now c.in-Plane.plane c.body.ensures c.in-Plane.is in
    rw (to_z-of_z w32 c.args.row row) (rw (to_z-of_z w32 c.args.first first) (λ k h.
    (planes_lie job tile.job.now.well c.args.stage c.in-Plane.plane s there body).1 c.args.row (c.args.first +ℤ pos k)
    (of_plane job inlining given Inner c.args.stage c.args.row (c.args.first +ℤ pos k) s there (c.requires k h) c.in-Plane.plane body)))

pub returns-in-Plane : goal.returns-in-Plane
returns-in-Plane g c =
    let tile = c.args.self.now.tile in
    let job = pipeline_in tile.job.now in
    let inlining = tile.layout.now.inlining in
    let given = g.K.TileSource.given tile.known.now in
    let s = stage_view c.in_ok-found.found.now in
    let row : FitsSigned w32 c.args.row = search rules in
    let first : FitsSigned w32 c.args.first = search rules in
    let there : slice_get job.stages c.args.stage ≡ Some s = sym c.in_ok-found.ensures in
    let body = plane_body c.in_ok-found.found.now c.body.result.now c.in-Plane.plane c.body.ensures c.in-Plane.is in
    some_then c.borrow_plane_bytes.result
    (some_both _ _ c.borrow_plane_bytes.result c.borrow_plane_bytes.ensures.count c.borrow_plane_bytes.ensures.samples) (λ line is. (
      is.0,
      λ k h.
          is.1 k h
          ∙ (λ i. sample_at job.picture c.in-Plane.plane (to_z-of_z w32 c.args.row row i) (to_z-of_z w32 c.args.first first i +ℤ pos k))
          ∙ sym (read_plane job inlining given (local_value job inlining given) c.args.stage s there c.args.row
          (c.args.first +ℤ pos k) c.in-Plane.plane body),
    ))
