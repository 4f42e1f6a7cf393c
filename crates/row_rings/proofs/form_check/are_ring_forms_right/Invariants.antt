use Rattle.std.proofs.Common.{ℕ, ◌≡◌, ◌<◌, true, false, Some, slice_get}
use Rattle.std.specs.Prelude.{slice_index_or}
use Rattle.job.specs.Kept.{pipeline_in}
use Rattle.row_rings.specs.NarrowRings.{IsNarrowlyMade}
use Rattle.row_rings.specs.RingForms.{IsRightForm}
use Rattle.row_rings.specs.declared.ring_shapes.RingShape.{RingShape}
use Rattle.row_rings.proofs.form_check.are_ring_forms_right.Given as goal

abbrev pub invariant-loop-stage : goal.invariant-loop-stage
invariant-loop-stage l = record {
  right : (g : ℕ) → g < l.stage
      → IsRightForm (pipeline_in l.job) l.states l.forms.wide.items l.forms.narrow.items l.forms.computed_narrow.items g;
  narrow : (g : ℕ) → g < l.stage → slice_index_or l.forms.computed_narrow.items g false ≡ true
      → (shape : RingShape) → slice_get l.shapes g ≡ Some shape → IsNarrowlyMade (pipeline_in l.job) g shape;
}
