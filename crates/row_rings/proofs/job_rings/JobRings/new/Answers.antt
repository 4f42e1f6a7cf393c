use Rattle.std.proofs.Common.{arith, ℕ, List, ◌≡◌, ◌<◌, ◌∙◌, Bool, true, false, length, sym, subst}
use Rattle.job.specs.Kept.{pipeline_in}
use Rattle.row_plans.specs.declared.row_state.RowState.{RowState}
use Rattle.row_rings.specs.NarrowRings.{AreNarrowlyMade}
use Rattle.row_rings.specs.RingForms.{AreRightForms}
use Rattle.row_rings.specs.RingRows.{ring_states}
use Rattle.row_rings.specs.TrueRings.{AreRoomy}
use Rattle.row_rings.proofs.Begun.{true_first, placed_first}
use Rattle.row_rings.specs.declared.ring_shapes.RingShape.{RingShape}
use Rattle.value_ranges.specs.Ranges.{AreRanges}
use Rattle.value_ranges.specs.declared.value_range.ValueRange.{ValueRange}
use Rattle.row_rings.proofs.job_rings.JobRings.new.Goals as goal

pub list_ring_shapes-requires : goal.list_ring_shapes-requires
list_ring_shapes-requires c =
    subst (λ (xs : List ValueRange). AreRanges (pipeline_in c.args.job.now) xs) (sym c.deref.ensures.value) c.in_ok-ranges.ensures.ranges

pub find_ring_forms-requires : goal.find_ring_forms-requires
find_ring_forms-requires c =
    subst (λ (xs : List ValueRange). AreRanges (pipeline_in c.args.job.now) xs) (sym c.deref-2.ensures.value) c.in_ok-ranges.ensures.ranges

pub invariant_of-result : goal.invariant_of-result
invariant_of-result c =
    let job = pipeline_in c.args.job.now in
    let forms = c.in_ok-forms.forms in
    let flags = forms.computed_narrow.items in
    let states = c.args.states.now in
    let shapes = c.in_ok-shapes.shapes.items in
    let are = c.in_ok-forms.ensures in
    let begun = c.requires in
    let wide = c.in_ok-wide.wide.items in
    let narrow = c.in_ok-narrow.narrow.items in
    let wide_is : ring_states wide ≡ forms.wide.items = c.in_ok-wide.ensures ∙ c.deref-6.ensures.value in
    let narrow_is : ring_states narrow ≡ forms.narrow.items = c.in_ok-narrow.ensures ∙ c.deref-7.ensures.value in
    let same = c.in_ok-states.ensures.items_if_clones_equal (λ x y e. e) in
    let w = λ (g : ℕ) (l : g < length states). (are.right g l).wide_whole in
    let n = λ (g : ℕ) (l : g < length states). (are.right g l).narrow_whole in
    let temps : length c.in_ok-vec.field-0.items ≡ c.in_ok-room.room = omega (arith, c.in_ok-vec.ensures.len, c.in_ok-vec.field-0.ok.0) in
    let narrow_temps : length c.in_ok-vec-2.field-0.items ≡ c.in_ok-narrow_room.narrow_room =
    omega (arith, c.in_ok-vec-2.ensures.len, c.in_ok-vec-2.field-0.ok.0) in
    record {
      forms =
          subst (λ (xs : List RowState). AreRightForms job xs (ring_states wide) (ring_states narrow) flags) (sym same)
          (subst (λ (xs : List RowState). AreRightForms job states xs (ring_states narrow) flags) (sym wide_is)
          (subst (λ (xs : List RowState). AreRightForms job states forms.wide.items xs flags) (sym narrow_is) are.right));
      made = ∣ subst (λ (xs : List RowState). AreNarrowlyMade job xs shapes flags) (sym same)
          (subst (λ (xs : List RingShape). AreNarrowlyMade job states xs flags) c.deref-3.ensures.value are.narrow) ∣₁;
      shaped = c.in_ok-shapes.ensures;
      right = true_first wide forms.wide.items states wide_is w are.few.0 begun job;
      right_narrow = true_first narrow forms.narrow.items states narrow_is n are.few.1 begun job;
      placed = placed_first wide forms.wide.items states wide_is w are.few.0 begun job;
      placed_narrow = placed_first narrow forms.narrow.items states narrow_is n are.few.1 begun job;
      roomy =
          subst (λ (m : ℕ). AreRoomy job flags false m) (sym temps)
          (subst (λ (xs : List Bool). AreRoomy job xs false c.in_ok-room.room) c.deref-4.ensures.value c.in_ok-room.ensures);
      roomy_narrow =
          subst (λ (m : ℕ). AreRoomy job flags true m) (sym narrow_temps)
          (subst (λ (xs : List Bool). AreRoomy job xs true c.in_ok-narrow_room.narrow_room) c.deref-5.ensures.value c.in_ok-narrow_room.ensures);
    }
