use Rattle.std.proofs.Common.{rules, ℤ, ◌≡◌, ◌<◌, length, w32, FitsSigned, ap, ◌∙◌, sym, subst}
use Rattle.std.proofs.Math.IntN.{+ℤ_idr}
use Rattle.std.proofs.lemmas.Int.{to_z-of_z}
use Rattle.domains.specs.Area.{HoldsPoint, point_count}
use Rattle.domains.specs.Index.{index_at}
use Rattle.row_loops.specs.Rows.{at}
use Rattle.row_kernels.specs.Places.{place_of}
use Rattle.row_kernels.specs.Columns.{column_gap}
use Rattle.row_kernels.proofs.Columns.{column_is, gap_goes}
use Rattle.row_kernels.proofs.Places.{place_goes, places_below}
use Rattle.row_kernels.proofs.buffer_view.BufferView.gather_row.Goals as goal

pub locate_point-place-requires : goal.locate_point-place-requires
locate_point-place-requires c =
    let some : 0 < length c.args.out.now = search rules in
    let row : FitsSigned w32 c.args.row = search rules in
    let from : FitsSigned w32 c.args.points.now.col = search rules in
    let col : FitsSigned w32 c.at.result = search rules in
    rw (to_z-of_z w32 c.args.row row)
    (subst (λ (z : ℤ). HoldsPoint c.args.self.now.area c.args.row z) (sym (column_is c.args.col.now c.args.points.now.col _ from col
    c.at.ensures.value))
    (subst (λ (z : ℤ). HoldsPoint c.args.self.now.area c.args.row (index_at c.args.col.now z)) (+ℤ_idr c.args.points.now.col)
    (c.requires.there 0 some)))

pub gather_index_columns-requires-clause-there : goal.gather_index_columns-requires-clause-there
gather_index_columns-requires-clause-there c =
    let row : FitsSigned w32 c.args.row = search rules in
    let from : FitsSigned w32 c.args.points.now.col = search rules in
    let col : FitsSigned w32 c.at.result = search rules in
    let first : c.locate_point-place.result ≡ place_of c.args.self.now.area c.args.row (index_at c.args.col.now c.args.points.now.col) =
    c.locate_point-place.ensures ∙ (λ i. place_of c.args.self.now.area (to_z-of_z w32 c.args.row row i)
    (column_is c.args.col.now c.args.points.now.col _ from col c.at.ensures.value i)) in
    let size : length c.args.self.now.values.now ≡ point_count c.args.self.now.area = c.args.self.now.size in
    places_below c.args.self.now.area c.args.row c.args.col.now c.args.points.now.col (column_gap c.args.col.now c.args.points.now.col)
    (length c.args.out.now) c.locate_point-place.result _ (gap_goes c.args.col.now c.args.points.now.col c.at.ensures.within) first size
    c.requires.there

pub returns : goal.returns
returns c = λ k h.
    let row : FitsSigned w32 c.args.row = search rules in
    let from : FitsSigned w32 c.args.points.now.col = search rules in
    let col : FitsSigned w32 c.at.result = search rules in
    let first : c.locate_point-place.result ≡ place_of c.args.self.now.area c.args.row (index_at c.args.col.now c.args.points.now.col) =
    c.locate_point-place.ensures ∙ (λ i. place_of c.args.self.now.area (to_z-of_z w32 c.args.row row i)
    (column_is c.args.col.now c.args.points.now.col _ from col c.at.ensures.value i)) in
    c.gather_index_columns.ensures k h
    ∙ ap (at c.args.self.now.values.now) (place_goes c.args.self.now.area c.args.row c.args.col.now c.args.points.now.col
    (column_gap c.args.col.now c.args.points.now.col) (length c.args.out.now) c.locate_point-place.result
    (gap_goes c.args.col.now c.args.points.now.col c.at.ensures.within) first c.requires.there k h)
