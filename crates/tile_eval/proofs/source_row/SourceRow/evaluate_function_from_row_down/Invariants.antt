use Rattle.std.proofs.Common.{◌≡◌, ℕ, ◌<◌, ◌+ℤ◌, ◌*◌, ◌+◌, pos, map}
use Rattle.std.specs.Option.{option_map}
use Rattle.job.specs.Views.{case_view, formula_view}
use Rattle.row_loops.specs.Rows.{EachPlace, at}
use Rattle.tile_eval.specs.Cases.{function_value}
use Rattle.tile_eval.proofs.source_row.SourceRow.evaluate_function_from_row_down.Given as goal

abbrev pub invariant-loop-i : goal.invariant-loop-i
invariant-loop-i g l =
    (i : ℕ) → i < l.i
    → EachPlace l.fn.self.points.len (λ k. at l.out (i * l.fn.self.points.len + k)
    ≡ function_value (g.S.RowSource.samples l.fn.self.source.now) (map case_view l.fn.function.cases.items)
    (option_map formula_view l.fn.function.otherwise) (l.fn.self.points.row +ℤ pos i) (l.fn.self.points.col +ℤ pos k))
