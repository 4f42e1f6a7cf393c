use Rattle.std.proofs.Common.{rules, ◌≡◌, true, false, Some, slice_get}
use Rattle.std.specs.Prelude.{slice_index_or}
use Rattle.job.specs.Kept.{pipeline_in}
use Rattle.row_rings.specs.NarrowRings.{IsNarrowlyMade}
use Rattle.row_rings.specs.RingForms.{IsRightForm}
use Rattle.row_rings.specs.declared.ring_shapes.RingShape.{RingShape}
use Rattle.row_rings.proofs.Places.{each_more}
use Rattle.row_rings.proofs.form_check.are_ring_forms_right.Goals as goal

pub loop-stage-preserved : goal.loop-stage-preserved
loop-stage-preserved c =
    let job = pipeline_in c.args.job.now in
    let yes : c.is_ring_form_right.result ≡ true = search rules in
    let forms = c.args.forms.now in record {
      right = each_more (IsRightForm job c.args.states.now forms.wide.items forms.narrow.items forms.computed_narrow.items) c.loop-stage.stage
          c.loop-stage.invariant.right (c.is_ring_form_right.ensures.right yes);
      narrow = each_more (λ g. slice_index_or forms.computed_narrow.items g false ≡ true
          → (shape : RingShape) → slice_get c.args.shapes.now g ≡ Some shape → IsNarrowlyMade job g shape) c.loop-stage.stage
          c.loop-stage.invariant.narrow (c.is_ring_form_right.ensures.narrow yes);
    }
