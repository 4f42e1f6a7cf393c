use Rattle.std.proofs.Common.{arith, ℤ, List, ◌++◌, ◌-◌, ◌+ℤ◌, ◌<◌, pos, refl, ap, ◌∙◌}
use Rattle.domains.specs.Span.{len_of, numbers_of}
use Rattle.tile_eval.specs.Raster.{raster}
use Rattle.whole_stages.specs.Known.{buffer_value}
use Rattle.tile_eval.proofs.RowByRow.{rest_of, none_made, row_made, all_made}
use Rattle.whole_stages.proofs.buffers.StageBuffer.copy_area_values.Goals as goal

pub loop-place-init : goal.loop-place-init
loop-place-init c =
    let h : ℤ × ℤ → ℤ = λ p. buffer_value c.args.self.now p.0 p.1 in
    let area = c.args.area.now in
    ap (λ (xs : List ℤ). xs ++ rest_of h (area.rows.lo +ℤ pos 0) (len_of area.rows - 0) (numbers_of area.cols)) c.in_ok-values.ensures.items
    ∙ none_made h area

pub loop-place-preserved : goal.loop-place-preserved
loop-place-preserved c =
    let h : ℤ × ℤ → ℤ = λ p. buffer_value c.args.self.now p.0 p.1 in
    let area = c.args.area.now in
    let within : c.loop-place.place < len_of area.rows = omega arith in
    row_made h area.rows.lo (area.rows.lo +ℤ pos c.loop-place.place) c.loop-place.place (len_of area.rows) (numbers_of area.cols)
    c.loop-place.values.items c.extend_from_slice.new.self.items (raster area (buffer_value c.args.self.now))
    within refl c.loop-place.invariant
    (c.in_ok-extend_from_slice.ensures.items ∙ ap (λ (xs : List ℤ). c.loop-place.values.items ++ xs) c.borrow_area_row.ensures)

pub returns : goal.returns
returns c =
    let h : ℤ × ℤ → ℤ = λ p. buffer_value c.args.self.now p.0 p.1 in
    all_made h c.args.area.now c.loop-place.place c.loop-place.values.items (omega arith) c.loop-place.invariant
