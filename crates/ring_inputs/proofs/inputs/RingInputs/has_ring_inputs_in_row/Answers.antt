use Rattle.std.proofs.Common.{rules, ◌≡◌, Some, slice_get, pos, ◌+ℤ◌, FitsSigned, w32, sym, ap, ◌∙◌}
use Rattle.std.proofs.lemmas.Int.{to_z-of_z}
use Rattle.job.specs.Kept.{pipeline_in}
use Rattle.job.specs.Views.{stage_view}
use Rattle.ring_inputs.proofs.RowsAreRead.{row_is_read}
use Rattle.ring_inputs.proofs.inputs.RingInputs.has_ring_inputs_in_row.Goals as goal

pub returns : goal.returns
returns c = λ yes.
    let rings = c.args.self.now.rings.now in
    let job = pipeline_in rings.job.now in
    let s = stage_view c.in-Some.found.now in
    let there : slice_get job.stages c.args.stage ≡ Some s =
    ap (λ kept. slice_get (pipeline_in kept).stages c.args.stage) (sym c.job_of_rings.ensures) ∙ sym c.in-Some.ensures in
    let row = c.find_span_number_at_position-row.result in
    let is : row ≡ s.domain.rows.lo +ℤ pos c.args.place = search rules in
    let fits : FitsSigned w32 row = search rules in
    row_is_read job rings.wide.rings.items rings.placed rings.job.now.well c.args.stage c.args.place s there row is c.reads.result.now
    c.reads.ensures (rw (to_z-of_z w32 row fits) at (c.has_ring_inputs_of_all_reads.ensures yes))
