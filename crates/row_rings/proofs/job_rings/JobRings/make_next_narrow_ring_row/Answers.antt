use Rattle.std.proofs.Common.{arith, List, ◌≡◌, ◌<◌, true, length, set, slice_get, refl, ap, ◌∙◌, sym, subst}
use Rattle.std.proofs.Math.Logic.{∥∥₁_map}
use Rattle.std.proofs.lemmas.List.{length-set}
use Rattle.domains.specs.Span.{len_of}
use Rattle.job.specs.Kept.{pipeline_in}
use Rattle.job.specs.Values.{value}
use Rattle.row_plans.specs.Rows.{one_row_more}
use Rattle.row_plans.specs.declared.row_state.RowState.{RowState}
use Rattle.row_rings.specs.RingRows.{row_at, ring_states}
use Rattle.row_rings.specs.Rings.{states_in}
use Rattle.row_rings.specs.TrueRings.{AreTrueRings, ArePlacedRings, AreRoomy}
use Rattle.row_rings.specs.declared.ring_shapes.RingShape.{RingShape}
use Rattle.row_rings.proofs.LeastBounds.{least_body}
use Rattle.row_rings.proofs.Made.{state_within, state_is, few_made, served_narrow, ring_within, some_kept, room_made, next_is, line_made, with_line, row_for}
use Rattle.row_rings.proofs.Places.{refilled}
use Rattle.row_rings.proofs.Shapes.{shape_at, shapes_reach}
use Rattle.row_rings.proofs.Stages.{state_at, true_without, makeable}
use Rattle.row_rings.proofs.Stepping.{states_made, true_more, placed_more, forms_made, whole_made}
use Rattle.row_rings.proofs.job_rings.JobRings.make_next_narrow_ring_row.Goals as goal

pub take_out_ring-ring-requires : goal.take_out_ring-ring-requires
take_out_ring-ring-requires c =
    let self = c.args.self.now in
    let job = pipeline_in self.job.now in
    let g = c.args.stage in
    let can = c.requires.can in
    let served = served_narrow job (states_in self) g can (ring_states self.wide.rings.items) (ring_states self.narrow.rings.items)
    self.computed_narrow.items self.forms c.requires.form in
    ring_within job (states_in self) g can self.narrow.rings.items served

pub make_next_row_of_narrow_ring-requires-clause-can : goal.make_next_row_of_narrow_ring-requires-clause-can
make_next_row_of_narrow_ring-requires-clause-can c =
    let self = c.args.self.now in
    let job = pipeline_in self.job.now in
    let g = c.args.stage in
    let can = c.requires.can in
    let served = served_narrow job (states_in self) g can (ring_states self.wide.rings.items) (ring_states self.narrow.rings.items)
    self.computed_narrow.items self.forms c.requires.form in
    makeable job (states_in self) self.narrow.rings.items c.take_out_ring-ring.new.self.rings.items g c.take_out_ring-ring.ensures.others
    c.take_out_ring-ring.ensures.none self.job.now.well self.placed_narrow can served c.take_out_ring-ring.result c.take_out_ring-ring.ensures.ring

pub make_next_row_of_narrow_ring-requires-clause-some : goal.make_next_row_of_narrow_ring-requires-clause-some
make_next_row_of_narrow_ring-requires-clause-some c =
    let self = c.args.self.now in
    let job = pipeline_in self.job.now in
    let g = c.args.stage in
    let can = c.requires.can in
    let served = served_narrow job (states_in self) g can (ring_states self.wide.rings.items) (ring_states self.narrow.rings.items)
    self.computed_narrow.items self.forms c.requires.form in
    some_kept job (states_in self) g can self.narrow.rings.items served c.take_out_ring-ring.result c.take_out_ring-ring.ensures.ring

pub invariant_of-source : goal.invariant_of-source
invariant_of-source c =
    let self = c.args.self.now in record {
      right =
          true_without (pipeline_in self.job.now) (states_in self) self.narrow.rings.items c.take_out_ring-ring.new.self.rings.items c.args.stage
          c.take_out_ring-ring.ensures.others c.take_out_ring-ring.ensures.none self.right_narrow;
    }

pub make_next_row_of_narrow_ring-requires-clause-room : goal.make_next_row_of_narrow_ring-requires-clause-room
make_next_row_of_narrow_ring-requires-clause-room c =
    let self = c.args.self.now in
    let job = pipeline_in self.job.now in
    let g = c.args.stage in
    let can = c.requires.can in
    let served = served_narrow job (states_in self) g can (ring_states self.wide.rings.items) (ring_states self.narrow.rings.items)
    self.computed_narrow.items self.forms c.requires.form in
    room_made job (states_in self) g can self.narrow.rings.items served c.take_out_ring-ring.result c.take_out_ring-ring.ensures.ring
    (length self.narrow_temps.items) _ (omega (arith, c.deref_mut.ensures.len)) (self.roomy_narrow g c.requires.form)

pub make_next_row_of_narrow_ring-requires-clause-fits : goal.make_next_row_of_narrow_ring-requires-clause-fits
make_next_row_of_narrow_ring-requires-clause-fits c =
    let self = c.args.self.now in
    let job = pipeline_in self.job.now in
    let g = c.args.stage in
    let can = c.requires.can in
    let served = served_narrow job (states_in self) g can (ring_states self.wide.rings.items) (ring_states self.narrow.rings.items)
    self.computed_narrow.items self.forms c.requires.form in
    let ring = c.take_out_ring-ring.result in
    let there = c.take_out_ring-ring.ensures.ring in
    let form = self.forms g (state_within job (states_in self) g can) in
    form.fits ring.state (state_at self.narrow.rings.items g ring there) (some_kept job (states_in self) g can self.narrow.rings.items served ring there)

pub make_next_row_of_narrow_ring-requires-clause-narrow : goal.make_next_row_of_narrow_ring-requires-clause-narrow
make_next_row_of_narrow_ring-requires-clause-narrow c =
    let self = c.args.self.now in
    let job = pipeline_in self.job.now in
    let g = c.args.stage in
    let can = c.requires.can in
    let found = ap (λ (xs : List RingShape). slice_get xs g) (sym c.deref.ensures.value) ∙ c.borrow_ring_shape-shape.ensures in
    λ s at is plain r col inside.
    least_body (value job) s.body r col
    (∥∥₁_map self.made (λ all. all g (state_within job (states_in self) g can) c.requires.form _ found s at is plain r col inside))

pub borrow_ring_shape-shape-requires : goal.borrow_ring_shape-shape-requires
borrow_ring_shape-shape-requires c =
    let self = c.args.self.now in
    let reach = shapes_reach self.shapes.items (pipeline_in self.job.now).stages c.args.stage c.requires.can.stage self.shaped c.requires.can.there in
    subst (λ (xs : List RingShape). c.args.stage < length xs) (sym c.deref.ensures.value) reach

pub make_next_row_of_narrow_ring-requires-clause-shape : goal.make_next_row_of_narrow_ring-requires-clause-shape
make_next_row_of_narrow_ring-requires-clause-shape c =
    let self = c.args.self.now in
    let found = ap (λ (xs : List RingShape). slice_get xs c.args.stage) (sym c.deref.ensures.value) ∙ c.borrow_ring_shape-shape.ensures in
    λ s there. shape_at self.shapes.items (pipeline_in self.job.now).stages c.args.stage _ s self.shaped found there

pub index-requires : goal.index-requires
index-requires c =
    let self = c.args.self.now in
    let job = pipeline_in self.job.now in
    let g = c.args.stage in
    let can = c.requires.can in
    omega (arith, state_within job (states_in self) g can, self.states.ok.0)

pub borrow_counted_row-line-requires-clause-made : goal.borrow_counted_row-line-requires-clause-made
borrow_counted_row-line-requires-clause-made c =
    let self = c.args.self.now in
    let job = pipeline_in self.job.now in
    let g = c.args.stage in
    let can = c.requires.can in
    let served = served_narrow job (states_in self) g can (ring_states self.wide.rings.items) (ring_states self.narrow.rings.items)
    self.computed_narrow.items self.forms c.requires.form in
    let ring = c.take_out_ring-ring.result in
    let there = c.take_out_ring-ring.ensures.ring in
    let state = state_is job (states_in self) g can c.index.result.now c.index.ensures in
    let next = next_is job (states_in self) g can self.narrow.rings.items served ring there c.make_next_row_of_narrow_ring.new.self c.make_next_row_of_narrow_ring.ensures in
    omega (arith, ap (λ (s : RowState). s.next) state, ap (λ (s : RowState). s.next) next)

pub borrow_counted_row-line-requires-clause-kept : goal.borrow_counted_row-line-requires-clause-kept
borrow_counted_row-line-requires-clause-kept c =
    let self = c.args.self.now in
    let job = pipeline_in self.job.now in
    let g = c.args.stage in
    let can = c.requires.can in
    let served = served_narrow job (states_in self) g can (ring_states self.wide.rings.items) (ring_states self.narrow.rings.items)
    self.computed_narrow.items self.forms c.requires.form in
    let ring = c.take_out_ring-ring.result in
    let there = c.take_out_ring-ring.ensures.ring in
    let some = can.some in
    let state = state_is job (states_in self) g can c.index.result.now c.index.ensures in
    let next = next_is job (states_in self) g can self.narrow.rings.items served ring there c.make_next_row_of_narrow_ring.new.self c.make_next_row_of_narrow_ring.ensures in
    omega (arith, some, ap (λ (s : RowState). s.next) state, ap (λ (s : RowState). s.next) next, ap (λ (s : RowState). s.kept) next)

pub push_widened_ring_row-requires : goal.push_widened_ring_row-requires
push_widened_ring_row-requires c =
    let self = c.args.self.now in
    let job = pipeline_in self.job.now in
    let g = c.args.stage in
    let can = c.requires.can in
    let served = served_narrow job (states_in self) g can (ring_states self.wide.rings.items) (ring_states self.narrow.rings.items)
    self.computed_narrow.items self.forms c.requires.form in
    let ring = c.take_out_ring-ring.result in
    let there = c.take_out_ring-ring.ensures.ring in
    let form = self.forms g (state_within job (states_in self) g can) in
    let new = c.make_next_row_of_narrow_ring.new.self in
    let line = c.borrow_counted_row-line.result.now in
    let state = state_is job (states_in self) g can c.index.result.now c.index.ensures in
    let line_is : line ≡ row_at new can.state.next =
    c.borrow_counted_row-line.ensures.numbers ∙ ap (λ (s : RowState). row_at new s.next) state in
    let made = line_made job (states_in self) g can self.narrow.rings.items served ring there new c.make_next_row_of_narrow_ring.ensures line line_is in
    let long : length line ≡ len_of can.state.area.cols =
    c.borrow_counted_row-line.ensures.count ∙ ap (λ (s : RowState). len_of s.area.cols) (next_is job (states_in self) g can self.narrow.rings.items served ring there new c.make_next_row_of_narrow_ring.ensures) in
    row_for job (states_in self) g can self.wide.rings.items line long self.job.now.well form.wide_whole

pub index_mut-requires-2 : goal.index_mut-requires-2
index_mut-requires-2 c =
    let self = c.args.self.now in
    let job = pipeline_in self.job.now in
    let g = c.args.stage in
    let can = c.requires.can in
    omega (arith, state_within job (states_in self) g can, self.states.ok.0)

pub overflow_add-index_mut : goal.overflow_add-index_mut
overflow_add-index_mut c =
    let self = c.args.self.now in
    let job = pipeline_in self.job.now in
    let g = c.args.stage in
    let can = c.requires.can in
    let few = few_made job (states_in self) g can self.job.now.well in
    let state = state_is job (states_in self) g can c.index_mut-2.result.now c.index_mut-2.ensures.value in
    omega (arith, few, ap (λ (s : RowState). s.next) state)

pub invariant_of-self : goal.invariant_of-self
invariant_of-self c =
    let self = c.args.self.now in
    let job = pipeline_in self.job.now in
    let g = c.args.stage in
    let can = c.requires.can in
    let served = served_narrow job (states_in self) g can (ring_states self.wide.rings.items) (ring_states self.narrow.rings.items)
    self.computed_narrow.items self.forms c.requires.form in
    let ring = c.take_out_ring-ring.result in
    let there = c.take_out_ring-ring.ensures.ring in
    let form = self.forms g (state_within job (states_in self) g can) in
    let new = c.make_next_row_of_narrow_ring.new.self in
    let line = c.borrow_counted_row-line.result.now in
    let state = state_is job (states_in self) g can c.index.result.now c.index.ensures in
    let line_is : line ≡ row_at new can.state.next =
    c.borrow_counted_row-line.ensures.numbers ∙ ap (λ (s : RowState). row_at new s.next) state in
    let made = line_made job (states_in self) g can self.narrow.rings.items served ring there new c.make_next_row_of_narrow_ring.ensures line line_is in
    let with = with_line job (states_in self) g can self.narrow.rings.items served ring there new c.make_next_row_of_narrow_ring.ensures line line_is in
    let back = sym (c.take_out_ring-ring.ensures.back new) in
    let after_is = ap (λ (s : RowState). set (states_in self) g (one_row_more s))
    (state_is job (states_in self) g can c.index_mut-2.result.now c.index_mut-2.ensures.value) ∙ sym (states_made job (states_in self) g can) in
    let temps : length c.make_next_row_of_narrow_ring.new.temps ≡ self.narrow_temps.len = omega (arith, c.make_next_row_of_narrow_ring.auto.temps, c.deref_mut.ensures.len) in
    record {
      forms =
          forms_made job (states_in self) g can line self.wide.rings.items c.push_widened_ring_row.new.self.rings.items self.narrow.rings.items
          (set self.narrow.rings.items g new) c.push_widened_ring_row.ensures with _ after_is _ _ refl (sym back) self.computed_narrow.items self.forms;
      made = ∥∥₁_map self.made (λ all h within flag.
          all h (omega (arith, within, length-set (states_in self) g (one_row_more c.index_mut-2.result.now))) flag);
      right =
          true_more job (states_in self) g can line self.wide.rings.items
          c.push_widened_ring_row.new.self.rings.items c.push_widened_ring_row.ensures form.wide_whole self.right made;
      right_narrow =
          subst (AreTrueRings job) back (true_more job (states_in self) g can line self.narrow.rings.items
          (set self.narrow.rings.items g new) with form.narrow_whole self.right_narrow made);
      placed =
          placed_more job (states_in self) g can line self.wide.rings.items
          c.push_widened_ring_row.new.self.rings.items c.push_widened_ring_row.ensures form.wide_whole self.placed;
      placed_narrow =
          subst (ArePlacedRings job) back (placed_more job (states_in self) g can line self.narrow.rings.items
          (set self.narrow.rings.items g new) with form.narrow_whole self.placed_narrow);
      shaped = self.shaped;
      roomy = self.roomy;
      roomy_narrow =
          subst (AreRoomy job self.computed_narrow.items true)
          (sym (refilled c.make_next_row_of_narrow_ring.new.temps self.narrow_temps.items self.narrow_temps.len temps self.narrow_temps.ok.0)) self.roomy_narrow;
    }

pub returns-clause-states : goal.returns-clause-states
returns-clause-states c =
    let self = c.args.self.now in
    let job = pipeline_in self.job.now in
    let g = c.args.stage in
    let can = c.requires.can in
    let after_is = ap (λ (s : RowState). set (states_in self) g (one_row_more s))
    (state_is job (states_in self) g can c.index_mut-2.result.now c.index_mut-2.ensures.value) ∙ sym (states_made job (states_in self) g can) in
    after_is

pub returns-clause-wide : goal.returns-clause-wide
returns-clause-wide c = λ h whole.
    let self = c.args.self.now in
    let job = pipeline_in self.job.now in
    let g = c.args.stage in
    let can = c.requires.can in
    let line = c.borrow_counted_row-line.result.now in
    let after_is = ap (λ (s : RowState). set (states_in self) g (one_row_more s))
    (state_is job (states_in self) g can c.index_mut-2.result.now c.index_mut-2.ensures.value) ∙ sym (states_made job (states_in self) g can) in
    whole_made job (states_in self) g can line self.wide.rings.items c.push_widened_ring_row.new.self.rings.items c.push_widened_ring_row.ensures _ after_is _ refl h whole

pub returns-clause-narrow : goal.returns-clause-narrow
returns-clause-narrow c = λ h whole.
    let self = c.args.self.now in
    let job = pipeline_in self.job.now in
    let g = c.args.stage in
    let can = c.requires.can in
    let served = served_narrow job (states_in self) g can (ring_states self.wide.rings.items) (ring_states self.narrow.rings.items)
    self.computed_narrow.items self.forms c.requires.form in
    let ring = c.take_out_ring-ring.result in
    let there = c.take_out_ring-ring.ensures.ring in
    let new = c.make_next_row_of_narrow_ring.new.self in
    let line = c.borrow_counted_row-line.result.now in
    let state = state_is job (states_in self) g can c.index.result.now c.index.ensures in
    let line_is : line ≡ row_at new can.state.next =
    c.borrow_counted_row-line.ensures.numbers ∙ ap (λ (s : RowState). row_at new s.next) state in
    let with = with_line job (states_in self) g can self.narrow.rings.items served ring there new c.make_next_row_of_narrow_ring.ensures line line_is in
    let back = sym (c.take_out_ring-ring.ensures.back new) in
    let after_is = ap (λ (s : RowState). set (states_in self) g (one_row_more s))
    (state_is job (states_in self) g can c.index_mut-2.result.now c.index_mut-2.ensures.value) ∙ sym (states_made job (states_in self) g can) in
    whole_made job (states_in self) g can line self.narrow.rings.items (set self.narrow.rings.items g new) with _ after_is _ (sym back) h whole
