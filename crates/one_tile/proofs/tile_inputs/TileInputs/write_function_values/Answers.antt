use Rattle.std.proofs.Common.{ℕ, ℤ, map, ◌∙◌}
use Rattle.std.specs.Option.{option_map}
use Rattle.job.specs.Kept.{pipeline_in}
use Rattle.job.specs.Views.{case_view, formula_view}
use Rattle.one_tile.specs.Prepared.{IsBoxed}
use Rattle.one_tile.proofs.ValuesAreLocal.{all_near, tests_are, formulas_are, boxes_are, reads_are, values_are}
use Rattle.one_tile.proofs.tile_inputs.TileInputs.write_function_values.Goals as goal

pub evaluate_function_area-requires-clause-function : goal.evaluate_function_area-requires-clause-function
evaluate_function_area-requires-clause-function g c =
    let tile = c.args.self.now.tile in
    let job = pipeline_in tile.job.now in
    let given = g.K.TileSource.given tile.known.now in
    let inlining = tile.layout.now.inlining in
    let Inner : ℕ → ℤ → ℤ → Type 0 = IsBoxed job tile.layout.now given c.args.self.now.boxes in
    let cases = map case_view c.args.function.now.cases.items in
    let other = option_map formula_view c.args.function.now.otherwise in
    let good = tile.job.now.well in
    let area = c.args.area.now in
    let near = all_near job good inlining given Inner c.args.number cases other area c.requires.function c.requires.prepared
    c.requires.area in
    record {
      rows = near.0;
      cols = near.1;
      tests = tests_are job good inlining given Inner c.args.number cases other area c.requires.function c.requires.prepared;
      formulas = formulas_are job good inlining given Inner c.args.number cases other area c.requires.function c.requires.prepared;
      boxes = boxes_are job good inlining given Inner c.args.number cases other area c.requires.function c.requires.prepared;
      reads = reads_are job good inlining given Inner c.args.number cases other area c.requires.function c.requires.prepared;
    }

pub returns : goal.returns
returns g c =
    let tile = c.args.self.now.tile in
    let job = pipeline_in tile.job.now in
    let given = g.K.TileSource.given tile.known.now in
    let f = c.args.function.now in
    c.evaluate_function_area.ensures
    ∙ values_are job tile.job.now.well tile.layout.now.inlining given (IsBoxed job tile.layout.now given c.args.self.now.boxes)
    c.args.number (map case_view f.cases.items) (option_map formula_view f.otherwise) c.args.area.now c.requires.function
    c.requires.prepared
