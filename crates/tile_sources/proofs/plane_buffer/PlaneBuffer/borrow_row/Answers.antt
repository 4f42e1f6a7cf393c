use Rattle.std.proofs.Common.{rules, arith, ℕ, pos, ◌≡◌, ◌<◌, ◌≤◌, ◌+◌, ◌+ℤ◌, Some, sym, ◌∙◌, subst, w32, FitsSigned}
use Rattle.std.proofs.lemmas.Int.{to_z-of_z}
use Rattle.domains.specs.Area.{HoldsPoint}
use Rattle.domains.specs.declared.area.Area.{Area}
use Rattle.row_kernels.proofs.Places.{place_below}
use Rattle.tile_eval.specs.Raster.{place_of}
use Rattle.tile_eval.specs.Rows.{at}
use Rattle.tile_sources.proofs.PlanesAreWide.{row_there}
use Rattle.tile_sources.proofs.plane_buffer.PlaneBuffer.borrow_row.Goals as goal

pub slice_row-requires : goal.slice_row-requires
slice_row-requires c =
    let row : FitsSigned w32 c.args.row = search rules in
    let first : FitsSigned w32 c.args.first = search rules in
    let area = c.in_ok-area.area in
    let held : HoldsPoint area c.args.row c.args.first = search rules in
    let ends : (c.args.first +ℤ pos c.count_plane_buffer_columns_from.result) ≡ area.cols.hi +ℤ pos 1 = search rules in
    let most : c.args.count ≤ c.count_plane_buffer_columns_from.result = omega arith in
    rw (to_z-of_z w32 c.args.row row) (rw (to_z-of_z w32 c.args.first first) (λ k h.
    subst (λ (a : Area). HoldsPoint a c.args.row (c.args.first +ℤ pos k)) (sym c.new-view.ensures.area)
    (row_there area c.args.row c.args.first c.count_plane_buffer_columns_from.result c.args.count held ends most k h)))

pub returns-clause-samples : goal.returns-clause-samples
returns-clause-samples c = λ picture n wide k h.
    let row : FitsSigned w32 c.args.row = search rules in
    let first : FitsSigned w32 c.args.first = search rules in
    let area = c.in_ok-area.area in
    let held : HoldsPoint area c.args.row c.args.first = search rules in
    let ends : (c.args.first +ℤ pos c.count_plane_buffer_columns_from.result) ≡ area.cols.hi +ℤ pos 1 = search rules in
    let most : c.args.count ≤ c.count_plane_buffer_columns_from.result = omega arith in
    let there = row_there area c.args.row c.args.first c.count_plane_buffer_columns_from.result c.args.count held ends most k h in
    let area_is : c.args.self.now.area ≡ Some area = search rules in
    let place : ℕ = place_of area c.args.row (c.args.first +ℤ pos k) in
    let below : place < c.points.result = omega (arith, place_below area c.args.row (c.args.first +ℤ pos k) there, c.points.ensures.number) in
    let none_more : 0 + place ≡ place = omega arith in
    c.slice_row.ensures.values k h
    ∙ (λ i. at (c.new-view.ensures.values i) (place_of (c.new-view.ensures.area i) (to_z-of_z w32 c.args.row row i)
    (to_z-of_z w32 c.args.first first i +ℤ pos k)))
    ∙ c.in_ok-samples.ensures.numbers place below
    ∙ (λ i. at (c.deref.ensures.value i) (none_more i))
    ∙ wide area area_is c.args.row (c.args.first +ℤ pos k) there
