use Rattle.std.proofs.Common.{◌≡◌, ◌-◌, ◌+ℤ◌, pos, length}
use Rattle.domains.specs.Span.{len_of}
use Rattle.job.specs.Values.{formula_value}
use Rattle.job.specs.Views.{formula_view}
use Rattle.tile_eval.specs.Rows.{EachPlace, at}
use Rattle.reductions.specs.inside.Gathering.{after_values, values_among, points_from}
use Rattle.reductions.proofs.gather.accumulate_area_rows_in_bins.Given as goal

-- the bins took in the rows so far
abbrev pub invariant-loop-i : goal.invariant-loop-i
invariant-loop-i g l =
    let a = l.fn.accumulator in
    let value = formula_value (g.S.RowSource.samples l.fn.source) (formula_view a.value) in
    let bin = formula_value (g.S.RowSource.samples l.fn.source) (formula_view a.bin) in
    EachPlace (length l.bins) (λ j.
    at l.bins j ≡ after_values a.fold (at l.initial.bins j) (values_among value bin
    (points_from (l.fn.area.rows.lo +ℤ pos l.fn.first) (l.i - l.fn.first) l.fn.area.cols.lo (len_of l.fn.area.cols))
    (a.bins.lo +ℤ pos j)))
