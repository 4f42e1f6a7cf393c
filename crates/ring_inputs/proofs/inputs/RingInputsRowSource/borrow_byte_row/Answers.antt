use Rattle.std.proofs.Common.{rules, pos, ◌+ℤ◌, FitsSigned, w32, sym, ap, subst, ◌∙◌}
use Rattle.std.proofs.lemmas.Int.{to_z-of_z}
use Rattle.domains.specs.Area.{HoldsPoint}
use Rattle.netpbm.specs.Image.{Image}
use Rattle.job.specs.Kept.{pipeline_in}
use Rattle.job.specs.Values.{sample_at}
use Rattle.job.specs.WellFormed.{picture_area}
use Rattle.tile_sources.proofs.PlanesAreWide.{some_both, some_then}
use Rattle.ring_inputs.proofs.inputs.RingInputsRowSource.borrow_byte_row.Goals as goal

pub borrow_plane_row_bytes_for_tile-requires-clause-there : goal.borrow_plane_row_bytes_for_tile-requires-clause-there
borrow_plane_row_bytes_for_tile-requires-clause-there c =
    let row : FitsSigned w32 c.args.row = search rules in
    let first : FitsSigned w32 c.args.first = search rules in
    let picture = c.picture-picture.ensures ∙ ap (λ kept. (pipeline_in kept).picture) c.job_of_rings.ensures in
    rw (to_z-of_z w32 c.args.row row) (rw (to_z-of_z w32 c.args.first first) (λ k h.
    subst (λ (p : Image). HoldsPoint (picture_area p) c.args.row (c.args.first +ℤ pos k)) (sym picture)
    (c.in_ok-plane.ensures.some.within c.args.row (c.args.first +ℤ pos k) (c.requires k h))))

pub returns : goal.returns
returns c =
    let row : FitsSigned w32 c.args.row = search rules in
    let first : FitsSigned w32 c.args.first = search rules in
    let picture = c.picture-picture.ensures ∙ ap (λ kept. (pipeline_in kept).picture) c.job_of_rings.ensures in
    let bytes = c.borrow_plane_row_bytes_for_tile in
    some_then bytes.result (some_both _ _ bytes.result bytes.ensures.count bytes.ensures.samples) (λ line is. (
      is.0,
      λ k h.
          is.1 k h
          ∙ (λ i. sample_at (picture i) c.in_ok-plane.plane (to_z-of_z w32 c.args.row row i) (to_z-of_z w32 c.args.first first i +ℤ pos k))
          ∙ c.in_ok-plane.ensures.some.samples c.args.row (c.args.first +ℤ pos k) (c.requires k h),
    ))
