use Rattle.std.proofs.Common.{◌∙◌, length, map}
use Rattle.std.specs.Option.{option_map}
use Rattle.job.specs.Views.{case_view, formula_view}
use Rattle.job.proofs.Steps.{All-from_map}
use Rattle.tile_eval.specs.Cases.{function_value}
use Rattle.tile_eval.proofs.Domains.{IsLaid, IsReadyOver, cases_ready, other_ready, raster_from}
use Rattle.tile_eval.proofs.functions.evaluate_function_area.Goals as goal

pub evaluate_function_from_row_down-requires-clause-cases : goal.evaluate_function_from_row_down-requires-clause-cases
evaluate_function_from_row_down-requires-clause-cases g c =
    let laid : IsLaid c.args.area.now c.from_area_top-points.result.row c.from_area_top-points.result.col c.len-rows.result c.from_area_top-points.result.len =
    record {
      top =
          c.from_area_top-points.ensures.row;
      left =
          c.from_area_top-points.ensures.col;
      height =
          c.len-rows.ensures.number;
      width = c.from_area_top-points.ensures.len;
      near_rows = c.requires.function.rows;
      near_cols = c.requires.function.cols;
    } in
    All-from_map (IsReadyOver (g.S.RowSource.has c.args.source.now) c.from_area_top-points.result.row c.from_area_top-points.result.col c.len-rows.result
    c.from_area_top-points.result.len (length c.args.temps.now)) case_view c.args.function.now.cases.items
    (cases_ready (g.S.RowSource.has c.args.source.now) c.args.area.now (map case_view c.args.function.now.cases.items)
    (option_map formula_view c.args.function.now.otherwise) _ _ _ _ (length c.args.temps.now) laid c.requires.function.tests
    c.requires.function.formulas
    c.requires.function.boxes c.requires.function.reads c.requires.room)

pub evaluate_function_from_row_down-requires-clause-other : goal.evaluate_function_from_row_down-requires-clause-other
evaluate_function_from_row_down-requires-clause-other g c =
    let laid : IsLaid c.args.area.now c.from_area_top-points.result.row c.from_area_top-points.result.col c.len-rows.result c.from_area_top-points.result.len =
    record {
      top =
          c.from_area_top-points.ensures.row;
      left =
          c.from_area_top-points.ensures.col;
      height =
          c.len-rows.ensures.number;
      width = c.from_area_top-points.ensures.len;
      near_rows = c.requires.function.rows;
      near_cols = c.requires.function.cols;
    } in
    other_ready (g.S.RowSource.has c.args.source.now) c.args.area.now (map case_view c.args.function.now.cases.items)
    (option_map formula_view c.args.function.now.otherwise) _ _ _ _ (length c.args.temps.now) laid c.requires.function.formulas
    c.requires.function.reads
    c.requires.room

pub returns : goal.returns
returns g c =
    let laid : IsLaid c.args.area.now c.from_area_top-points.result.row c.from_area_top-points.result.col c.len-rows.result c.from_area_top-points.result.len =
    record {
      top =
          c.from_area_top-points.ensures.row;
      left =
          c.from_area_top-points.ensures.col;
      height =
          c.len-rows.ensures.number;
      width = c.from_area_top-points.ensures.len;
      near_rows = c.requires.function.rows;
      near_cols = c.requires.function.cols;
    } in
    raster_from c.args.area.now (function_value (g.S.RowSource.samples c.args.source.now) (map case_view c.args.function.now.cases.items)
    (option_map formula_view c.args.function.now.otherwise)) _ _ _ _ c.evaluate_function_from_row_down.new.out laid
    (c.evaluate_function_from_row_down.auto.out ∙ c.requires.len) c.evaluate_function_from_row_down.ensures
