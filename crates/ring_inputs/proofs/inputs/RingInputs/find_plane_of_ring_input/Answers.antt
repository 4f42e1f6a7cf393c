use Rattle.std.proofs.Common.{◌≡◌, Some, slice_get, sym, ap, ◌∙◌}
use Rattle.job.specs.Kept.{pipeline_in}
use Rattle.job.specs.Views.{body_view, stage_view}
use Rattle.ring_inputs.proofs.PointsAreRead.{plane_input}
use Rattle.ring_inputs.proofs.inputs.RingInputs.find_plane_of_ring_input.Goals as goal

pub returns-in-Plane-clause-some : goal.returns-in-Plane-clause-some
returns-in-Plane-clause-some c =
    let rings = c.args.self.now.rings.now in
    let job = pipeline_in rings.job.now in
    let s = stage_view c.in_ok-found.found.now in
    let there : slice_get job.stages c.args.stage ≡ Some s =
    ap (λ kept. slice_get (pipeline_in kept).stages c.args.stage) (sym c.job_of_rings.ensures) ∙ sym c.in_ok-found.ensures in
    plane_input job rings.wide.rings.items c.args.stage s there rings.job.now.well c.in-Plane.plane
    (ap body_view (sym c.body.ensures ∙ c.in-Plane.is))
