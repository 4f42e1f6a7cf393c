use Rattle.std.proofs.Common.{rules, arith, ℤ, ◌≡◌, ◌<◌, ◌+◌, ◌*◌, unsigned_abs, length, w32, FitsSigned, ◌∙◌, sym, subst}
use Rattle.std.proofs.Math.IntN.{+ℤ_idr}
use Rattle.std.proofs.lemmas.Int.{to_z-of_z}
use Rattle.domains.specs.Area.{HoldsPoint}
use Rattle.domains.specs.Index.{index_at}
use Rattle.job.specs.WellFormed.{picture_area}
use Rattle.row_kernels.specs.Columns.{column_gap}
use Rattle.row_kernels.proofs.Columns.{column_is, gap_goes}
use Rattle.tile_sources.proofs.PlaneSamples.{far_below, sample_picked}
use Rattle.tile_sources.proofs.samples.gather_plane_row_for_tile.Goals as goal

pub locate_plane_sample_for_tile-place-requires : goal.locate_plane_sample_for_tile-place-requires
locate_plane_sample_for_tile-place-requires c =
    let some : 0 < length c.args.out.now = search rules in
    let row : FitsSigned w32 c.args.row = search rules in
    let from : FitsSigned w32 c.args.points.now.col = search rules in
    let col : FitsSigned w32 c.at.result = search rules in
    rw (to_z-of_z w32 c.args.row row) (subst (λ (z : ℤ). HoldsPoint (picture_area c.args.picture.now) c.args.row z)
    (sym (column_is c.args.col.now c.args.points.now.col _ from col c.at.ensures.value))
    (subst (λ (z : ℤ). HoldsPoint (picture_area c.args.picture.now) c.args.row (index_at c.args.col.now z)) (+ℤ_idr c.args.points.now.col)
    (c.requires.there 0 some)))

pub gather_samples-requires-clause-there : goal.gather_samples-requires-clause-there
gather_samples-requires-clause-there c = λ k h.
    let row : FitsSigned w32 c.args.row = search rules in
    let from : FitsSigned w32 c.args.points.now.col = search rules in
    let col : FitsSigned w32 c.at.result = search rules in
    let first : c.locate_plane_sample_for_tile-place.result ≡ unsigned_abs c.args.row * c.args.picture.now.cols + unsigned_abs (index_at c.args.col.now
    c.args.points.now.col) =
    c.locate_plane_sample_for_tile-place.ensures.place ∙ (λ i. unsigned_abs (to_z-of_z w32 c.args.row row i) * c.args.picture.now.cols + unsigned_abs
    (column_is c.args.col.now c.args.points.now.col _ from col c.at.ensures.value i)) in
    omega (
      arith,
      far_below c.args.picture.now c.args.row c.args.col.now c.args.points.now.col
          (column_gap c.args.col.now c.args.points.now.col) (length c.args.out.now) c.locate_plane_sample_for_tile-place.result
          (gap_goes c.args.col.now c.args.points.now.col c.at.ensures.within) first c.requires.there k h,
      c.borrow_plane_samples_for_tile.ensures.count,
    )

pub returns : goal.returns
returns c = λ k h.
    let row : FitsSigned w32 c.args.row = search rules in
    let from : FitsSigned w32 c.args.points.now.col = search rules in
    let col : FitsSigned w32 c.at.result = search rules in
    let first : c.locate_plane_sample_for_tile-place.result ≡ unsigned_abs c.args.row * c.args.picture.now.cols + unsigned_abs (index_at c.args.col.now
    c.args.points.now.col) =
    c.locate_plane_sample_for_tile-place.ensures.place ∙ (λ i. unsigned_abs (to_z-of_z w32 c.args.row row i) * c.args.picture.now.cols + unsigned_abs
    (column_is c.args.col.now c.args.points.now.col _ from col c.at.ensures.value i)) in
    sample_picked c.args.picture.now c.args.row c.args.col.now c.args.points.now.col (column_gap c.args.col.now c.args.points.now.col)
    (length c.args.out.now) c.locate_plane_sample_for_tile-place.result (gap_goes c.args.col.now c.args.points.now.col c.at.ensures.within) first
    c.requires.there c.args.plane c.borrow_plane_samples_for_tile.result _ k c.borrow_plane_samples_for_tile.ensures.samples c.borrow_plane_samples_for_tile.ensures.count h
    (c.gather_samples.ensures k h)
