use Rattle.std.proofs.Common.{rules, pos, ◌+ℤ◌, sym, subst, ◌∙◌, w32, FitsSigned}
use Rattle.std.proofs.lemmas.Int.{to_z-of_z}
use Rattle.domains.specs.Area.{HoldsPoint}
use Rattle.netpbm.specs.Image.{Image}
use Rattle.job.specs.Values.{sample_at}
use Rattle.job.specs.WellFormed.{picture_area}
use Rattle.tile_sources.proofs.PlanesAreWide.{some_then}
use Rattle.one_tile.proofs.tile_inputs.TileInputs.borrow_plane_bytes.Goals as goal

pub borrow_plane_row_bytes_for_tile-requires-clause-there : goal.borrow_plane_row_bytes_for_tile-requires-clause-there
borrow_plane_row_bytes_for_tile-requires-clause-there g c =
    let row : FitsSigned w32 c.args.row = search rules in
    let first : FitsSigned w32 c.args.first = search rules in
    rw (to_z-of_z w32 c.args.row row) (rw (to_z-of_z w32 c.args.first first) (λ k h.
    subst (λ (p : Image). HoldsPoint (picture_area p) c.args.row (c.args.first +ℤ pos k)) (sym c.picture.ensures) (c.requires.there k h)))

pub returns-clause-samples : goal.returns-clause-samples
returns-clause-samples g c =
    let row : FitsSigned w32 c.args.row = search rules in
    let first : FitsSigned w32 c.args.first = search rules in
    some_then c.borrow_plane_row_bytes_for_tile.result c.borrow_plane_row_bytes_for_tile.ensures.samples (λ line is k h.
    is k h
    ∙ (λ i. sample_at (c.picture.ensures i) c.args.plane (to_z-of_z w32 c.args.row row i) (to_z-of_z w32 c.args.first first i +ℤ pos k)))
