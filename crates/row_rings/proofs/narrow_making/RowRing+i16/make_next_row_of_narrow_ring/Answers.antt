use Rattle.std.proofs.Common.{rules, arith, ◌≡◌, length, drop, refl, ◌∙◌}
use Rattle.std.specs.Vec.{with_items}
use Rattle.domains.specs.Span.{len_of}
use Rattle.job.specs.Kept.{pipeline_in}
use Rattle.row_rings.proofs.Places.{at_refilled}
use Rattle.row_rings.proofs.Turning.{one_row_made}
use Rattle.row_rings.proofs.Values.{next_small}
use Rattle.row_rings.proofs.narrow_making.RowRing+i16.make_next_row_of_narrow_ring.Goals as goal

pub overflow_add-self : goal.overflow_add-self
overflow_add-self c =
    let small = next_small (pipeline_in c.args.source.now.job.now) c.args.source.now.job.now.well c.args.source.now.known.now.rings.items c.args.stage c.args.self.now.state
    c.requires.can in
    omega (arith, small)

pub returns : goal.returns
returns c =
    let self = c.args.self.now in
    let row = c.index_mut.result.now in
    let out = c.write_stage_row_to_narrow_ring.new.out in
    let wide : length c.deref_mut.result.now ≡ len_of self.state.area.cols = search rules in
    let long : length out ≡ len_of self.state.area.cols = omega (arith, wide, c.write_stage_row_to_narrow_ring.auto.out) in
    let whole : row.len ≡ len_of self.state.area.cols = omega (arith, wide, c.deref_mut.ensures.len, row.ok.0) in
    one_row_made self _ (with_items row out) refl c.rotate_left.ensures.items c.requires.some (pipeline_in c.args.source.now.job.now) c.args.stage (λ k h.
    at_refilled out (drop (length out) row.items) row.len k (omega (arith, h, long)) (omega (arith, h, whole))
    ∙ c.write_stage_row_to_narrow_ring.ensures k h)
