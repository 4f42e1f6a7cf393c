use Rattle.std.proofs.Common.{rules, arith, ◌≡◌, length, drop, refl, ◌∙◌}
use Rattle.std.specs.Vec.{with_items}
use Rattle.domains.specs.Span.{len_of}
use Rattle.row_rings.proofs.Places.{at_refilled}
use Rattle.row_rings.proofs.Turning.{one_row_taken}
use Rattle.row_rings.proofs.converting.RowRing+i32.push_widened_ring_row.Goals as goal

pub returns : goal.returns
returns c =
    let self = c.args.self.now in
    let row = c.index_mut.result.now in
    let out = c.widen_narrow_row.new.out in
    let wide : length c.deref_mut.result.now ≡ len_of self.state.area.cols = search rules in
    let long : length out ≡ len_of self.state.area.cols = omega (arith, wide, c.widen_narrow_row.auto.out) in
    let whole : row.len ≡ len_of self.state.area.cols = omega (arith, wide, c.deref_mut.ensures.len, row.ok.0) in
    one_row_taken self _ (with_items row out) refl c.rotate_left.ensures.items c.requires.some c.args.line.now (λ k h.
    at_refilled out (drop (length out) row.items) row.len k (omega (arith, h, long)) (omega (arith, h, whole))
    ∙ c.widen_narrow_row.ensures k (omega (arith, h, wide)))
