use Rattle.std.proofs.Common.{rules, arith, pos, ◌≡◌, ◌+ℤ◌, FitsSigned, to_z, of_z, w32, subst, sym, ◌∙◌}
use Rattle.std.proofs.lemmas.Int.{to_z-of_z}
use Rattle.domains.specs.Area.{HoldsPoint}
use Rattle.domains.specs.Span.{Holds, len_of}
use Rattle.row_loops.specs.Rows.{at}
use Rattle.tile_eval.specs.Raster.{place_of}
use Rattle.whole_stages.specs.Known.{buffer_value}
use Rattle.tile_eval.proofs.Rasters.{nth_held}
use Rattle.tile_eval.proofs.RowByRow.{line_is}
use Rattle.whole_stages.proofs.buffers.StageBuffer.borrow_area_row.Goals as goal

pub slice_row-requires : goal.slice_row-requires
slice_row-requires c =
    let area = c.args.area.now in
    let row : FitsSigned w32 c.find_span_number_at_position-row.result = search rules in
    let first : FitsSigned w32 c.lo.result = search rules in
    rw (to_z-of_z w32 c.find_span_number_at_position-row.result row) (rw (to_z-of_z w32 c.lo.result first) (λ k h.
    subst (λ a. HoldsPoint a c.find_span_number_at_position-row.result (c.lo.result +ℤ pos k)) (sym c.view.ensures.area)
    (c.requires.within c.find_span_number_at_position-row.result (c.lo.result +ℤ pos k) (
      subst (Holds area.rows) (sym c.find_span_number_at_position-row.ensures) (nth_held area.rows c.args.place c.requires.row),
      subst (λ z. Holds area.cols (z +ℤ pos k)) (sym c.lo.ensures.end) (nth_held area.cols k (omega (arith, h, c.len.ensures.number))),
    ))))

pub returns : goal.returns
returns c =
    let area = c.args.area.now in
    let self = c.args.self.now in
    let row : FitsSigned w32 c.find_span_number_at_position-row.result = search rules in
    let first : FitsSigned w32 c.lo.result = search rules in
    let at_row : to_z w32 (of_z w32 c.find_span_number_at_position-row.result) ≡ area.rows.lo +ℤ pos c.args.place =
    to_z-of_z w32 c.find_span_number_at_position-row.result row ∙ c.find_span_number_at_position-row.ensures in
    let at_first : to_z w32 (of_z w32 c.lo.result) ≡ area.cols.lo = to_z-of_z w32 c.lo.result first ∙ c.lo.ensures.end in
    line_is (buffer_value self (area.rows.lo +ℤ pos c.args.place)) area.cols.lo (len_of area.cols) c.slice_row.result.now
    (c.slice_row.ensures.count ∙ c.len.ensures.number) (λ k h.
    c.slice_row.ensures.values k (omega (arith, h, c.len.ensures.number))
    ∙ (λ i. at (c.view.ensures.values i) (place_of (c.view.ensures.area i) (at_row i) (at_first i +ℤ pos k))))
