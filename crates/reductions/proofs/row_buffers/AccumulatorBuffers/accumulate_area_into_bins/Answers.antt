use Rattle.std.proofs.Common.{arith, ℕ, ℤ, ◌≡◌, ◌<◌, ◌+◌, ◌-◌, ◌+ℤ◌, pos, length, ap, ◌∙◌}
use Rattle.domains.specs.Area.{points_of}
use Rattle.domains.specs.Span.{len_of}
use Rattle.job.specs.Values.{Valuation, formula_value}
use Rattle.job.specs.Views.{formula_view}
use Rattle.tile_eval.specs.Rows.{at}
use Rattle.reductions.specs.inside.Gathering.{after_values, values_among, points_from}
use Rattle.reductions.proofs.GatherOnto.{took_is_joined}
use Rattle.reductions.proofs.TakeValues.{took_more}
use Rattle.reductions.proofs.row_buffers.AccumulatorBuffers.accumulate_area_into_bins.Goals as goal

pub returns : goal.returns
returns g c =
    let a = c.args.accumulator.now in
    let area = c.args.area.now in
    let env : Valuation = g.S.RowSource.samples c.args.source.now in
    let value : ℤ → ℤ → ℤ = formula_value env (formula_view a.value) in
    let bin : ℤ → ℤ → ℤ = formula_value env (formula_view a.bin) in
    let fours = c.accumulate_first_rows_in_adjacent_bins-first in
    let rest = c.accumulate_area_rows_in_bins in
    let within = fours.ensures.within in
    let all : fours.result + (len_of area.rows - fours.result) ≡ len_of area.rows = omega (arith, within) in
    let same : length fours.new.bins ≡ length c.args.bins.now = fours.auto.bins in
    took_is_joined a value bin (points_of area) c.args.bins.now rest.new.bins c.requires.bins (rest.auto.bins ∙ same) (λ j h.
    let inside : j < length fours.new.bins = omega (arith, h, same) in
    took_more a.fold value bin (a.bins.lo +ℤ pos j) area.rows.lo area.cols.lo (len_of area.cols) fours.result (len_of area.rows - fours.result)
    (at c.args.bins.now j) (at fours.new.bins j) (at rest.new.bins j) (fours.ensures.took j h) (rest.ensures j inside)
    ∙ ap (λ (m : ℕ). after_values a.fold (at c.args.bins.now j) (values_among value bin
    (points_from area.rows.lo m area.cols.lo (len_of area.cols)) (a.bins.lo +ℤ pos j))) all)
