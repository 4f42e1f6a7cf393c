use Rattle.std.proofs.Common.{rules, pos, ◌+ℤ◌, sym, subst, w32, FitsSigned}
use Rattle.std.proofs.lemmas.Int.{to_z-of_z}
use Rattle.domains.specs.Area.{HoldsPoint}
use Rattle.netpbm.specs.Image.{Image}
use Rattle.job.specs.WellFormed.{picture_area}
use Rattle.one_tile.proofs.tile_inputs.TileInputs.copy_plane_row.Goals as goal

pub read_plane_row_for_tile-requires-clause-there : goal.read_plane_row_for_tile-requires-clause-there
read_plane_row_for_tile-requires-clause-there g c =
    let row : FitsSigned w32 c.args.row = search rules in
    let first : FitsSigned w32 c.args.first = search rules in
    rw (to_z-of_z w32 c.args.row row) (rw (to_z-of_z w32 c.args.first first) (λ k h.
    subst (λ (p : Image). HoldsPoint (picture_area p) c.args.row (c.args.first +ℤ pos k)) (sym c.picture.ensures) (c.requires.there k h)))
