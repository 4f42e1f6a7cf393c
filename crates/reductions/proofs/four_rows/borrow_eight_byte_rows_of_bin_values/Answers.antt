use Rattle.std.proofs.Common.{◌+◌, sym, ◌∙◌}
use Rattle.job.specs.Values.{Valuation}
use Rattle.job.specs.Views.{formula_view}
use Rattle.reductions.proofs.FourRows.{row_long}
use Rattle.reductions.proofs.four_rows.borrow_eight_byte_rows_of_bin_values.Goals as goal

pub invariant_of-result : goal.invariant_of-result
invariant_of-result g c =
    let env : Valuation = g.S.RowSource.samples c.args.source.now in
    let f = formula_view c.args.value.now in
    let upper = c.in_ok-borrow_four_byte_rows_of_bin_values in
    let lower = c.in_ok-borrow_four_byte_rows_of_bin_values-2 in
    record {
      long =
          row_long env f c.args.area.now (c.args.row + 4) lower.field-0.first.now lower.ensures.first
          ∙ sym (row_long env f c.args.area.now c.args.row upper.field-0.first.now upper.ensures.first);
    }
