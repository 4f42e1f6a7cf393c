use Rattle.std.proofs.Common.{arith, map, sym, ◌∙◌}
use Rattle.std.specs.Option.{option_map}
use Rattle.job.specs.Views.{case_view, formula_view}
use Rattle.tile_eval.specs.Cases.{function_value}
use Rattle.column_phases.proofs.RowValues.{row_count, row_values}
use Rattle.column_phases.proofs.wide_writing.write_row_of_wide_column_phase.Goals as goal

pub evaluate_function_area-requires-clause-len : goal.evaluate_function_area-requires-clause-len
evaluate_function_area-requires-clause-len g c = c.requires.count ∙ sym (row_count c.args.area.now c.requires.one c.requires.function.rows)

pub returns : goal.returns
returns g c = λ k h.
    let f = c.args.function.now in
    row_values c.args.area.now c.requires.one c.requires.function.rows
    (function_value (g.S.RowSource.samples c.args.source.now) (map case_view f.cases.items) (option_map formula_view f.otherwise))
    c.evaluate_function_area.new.out c.evaluate_function_area.ensures k (omega (arith, h, c.requires.count))
