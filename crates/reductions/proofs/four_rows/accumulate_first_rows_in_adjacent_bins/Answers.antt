use Rattle.std.proofs.Common.{arith, ◌<◌, length, pos, ◌+ℤ◌}
use Rattle.domains.specs.Span.{len_of}
use Rattle.job.specs.Values.{Valuation, formula_value}
use Rattle.job.specs.Views.{formula_view}
use Rattle.tile_eval.specs.Rows.{at}
use Rattle.reductions.proofs.TakeValues.{took_more}
use Rattle.reductions.proofs.four_rows.accumulate_first_rows_in_adjacent_bins.Goals as goal

pub loop-row-preserved : goal.loop-row-preserved
loop-row-preserved g c =
    let env : Valuation = g.S.RowSource.samples c.args.source.now in
    let a = c.args.accumulator.now in
    let area = c.args.area.now in
    let eight = c.accumulate_eight_rows_in_adjacent_bins in record {
      within = eight.ensures.within c.loop-row-test.true;
      took = λ j h.
          let inside : j < length c.loop-row.bins = omega (arith, h, eight.auto.bins) in
          took_more a.fold (formula_value env (formula_view a.value)) (formula_value env (formula_view a.bin)) (a.bins.lo +ℤ pos j) area.rows.lo
          area.cols.lo (len_of area.cols) c.loop-row.row 8 (at c.args.bins.now j) (at c.loop-row.bins j) (at eight.new.bins j)
          (c.loop-row.invariant.took j inside) (eight.ensures.took c.loop-row-test.true j inside);
    }
