use Rattle.std.proofs.Common.{arith, ℕ, ℤ, ◌≡◌, ◌<◌, ◌+◌, ◌-◌, ◌+ℤ◌, pos, List, length, sym, ap, ◌∙◌, subst}
use Rattle.std.proofs.lemmas.Int.{ints}
use Rattle.domains.specs.Span.{len_of}
use Rattle.job.specs.Values.{Valuation, formula_value}
use Rattle.job.specs.Views.{formula_view}
use Rattle.tile_eval.specs.Rows.{at}
use Rattle.reductions.specs.Accumulating.{ReadsAt}
use Rattle.reductions.specs.inside.Gathering.{after_values, values_among, points_along, points_from}
use Rattle.reductions.proofs.TakeValues.{counted_held, one_row, took_more}
use Rattle.reductions.proofs.gather.accumulate_area_rows_in_bins.Goals as goal

pub accumulate_point_row_in_bins-requires-clause-reads : goal.accumulate_point_row_in_bins-requires-clause-reads
accumulate_point_row_in_bins-requires-clause-reads g c = λ k l.
    let area = c.args.area.now in
    let start = c.from_area_row-points in
    let below : c.loop-i.i < len_of area.rows = omega (arith, c.len-i-end.ensures.number) in
    let before : k < len_of area.cols = omega (arith, c.loop-i.auto.values, c.requires.width) in
    let reads = c.requires.reads (area.rows.lo +ℤ pos c.loop-i.i) (area.cols.lo +ℤ pos k)
    (counted_held area.rows c.loop-i.i c.requires.rows.span below, counted_held area.cols k c.requires.cols.span before) in
    subst (λ (r : ℤ). ReadsAt (g.S.RowSource.has c.args.source.now) c.args.accumulator.now r (start.result.col +ℤ pos k))
    (sym start.ensures.row)
    (subst (λ (x : ℤ). ReadsAt (g.S.RowSource.has c.args.source.now) c.args.accumulator.now (area.rows.lo +ℤ pos c.loop-i.i) (x +ℤ pos k))
    (sym start.ensures.col) reads)

pub loop-i-preserved : goal.loop-i-preserved
loop-i-preserved g c = λ j h.
    let env : Valuation = g.S.RowSource.samples c.args.source.now in
    let a = c.args.accumulator.now in
    let area = c.args.area.now in
    let start = c.from_area_row-points in
    let value : ℤ → ℤ → ℤ = formula_value env (formula_view a.value) in
    let bin : ℤ → ℤ → ℤ = formula_value env (formula_view a.bin) in
    let b : ℤ = a.bins.lo +ℤ pos j in
    let first : ℕ = c.args.first in
    let up = c.loop-i.auto.i in
    let inside : j < length c.loop-i.bins = omega (arith, c.accumulate_point_row_in_bins.auto.bins) in
    let width : length c.loop-i.values ≡ len_of area.cols = c.loop-i.auto.values ∙ c.requires.width in
    let here : start.result.row ≡ area.rows.lo +ℤ pos first +ℤ pos (c.loop-i.i - first) = omega (arith, ints, start.ensures.row, up) in
    let row : at c.accumulate_point_row_in_bins.new.bins j ≡ after_values a.fold (at c.loop-i.bins j) (values_among value bin
    (points_from (area.rows.lo +ℤ pos first +ℤ pos (c.loop-i.i - first)) 1 area.cols.lo (len_of area.cols)) b) =
    c.accumulate_point_row_in_bins.ensures j inside
    ∙ (λ t. after_values a.fold (at c.loop-i.bins j) (values_among value bin (points_along (here t) (start.ensures.col t) (width t)) b))
    ∙ ap (λ (ps : List (ℤ × ℤ)). after_values a.fold (at c.loop-i.bins j) (values_among value bin ps b))
    (sym (one_row (area.rows.lo +ℤ pos first +ℤ pos (c.loop-i.i - first)) area.cols.lo (len_of area.cols))) in
    let next : c.loop-i.i - first + 1 ≡ c.loop-i.i + 1 - first = omega (arith, up) in
    took_more a.fold value bin b (area.rows.lo +ℤ pos first) area.cols.lo (len_of area.cols) (c.loop-i.i - first) 1 (at c.args.bins.now j)
    (at c.loop-i.bins j) (at c.accumulate_point_row_in_bins.new.bins j) (c.loop-i.invariant j inside) row
    ∙ ap (λ (m : ℕ). after_values a.fold (at c.args.bins.now j) (values_among value bin
    (points_from (area.rows.lo +ℤ pos first) m area.cols.lo (len_of area.cols)) b)) next
