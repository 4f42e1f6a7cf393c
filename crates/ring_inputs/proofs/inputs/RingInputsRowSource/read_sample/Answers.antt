use Rattle.std.proofs.Common.{rules, FitsSigned, w32, sym, ap, subst, ◌∙◌}
use Rattle.std.proofs.lemmas.Int.{to_z-of_z}
use Rattle.domains.specs.Area.{HoldsPoint}
use Rattle.netpbm.specs.Image.{Image}
use Rattle.job.specs.Kept.{pipeline_in}
use Rattle.job.specs.WellFormed.{picture_area}
use Rattle.ring_inputs.proofs.inputs.RingInputsRowSource.read_sample.Goals as goal

pub read_plane_sample_for_tile-requires-clause-there : goal.read_plane_sample_for_tile-requires-clause-there
read_plane_sample_for_tile-requires-clause-there c =
    let row : FitsSigned w32 c.args.row = search rules in
    let col : FitsSigned w32 c.args.col = search rules in
    let picture = c.picture-picture.ensures ∙ ap (λ kept. (pipeline_in kept).picture) c.job_of_rings.ensures in
    rw (to_z-of_z w32 c.args.row row) (rw (to_z-of_z w32 c.args.col col)
    (subst (λ (p : Image). HoldsPoint (picture_area p) c.args.row c.args.col) (sym picture)
    (c.in-Some.ensures.some.within c.args.row c.args.col c.requires)))
