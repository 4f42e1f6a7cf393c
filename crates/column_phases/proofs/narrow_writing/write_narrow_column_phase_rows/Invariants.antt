use Rattle.std.proofs.Common.{◌≡◌, ◌<◌, ◌%◌, ◌+ℤ◌, pos, length, map}
use Rattle.std.specs.Option.{option_map}
use Rattle.narrow_eval.specs.NarrowPrograms.{program_case, program_formula}
use Rattle.row_loops.specs.Rows.{EachPlace, at}
use Rattle.tile_eval.specs.Cases.{function_value}
use Rattle.column_phases.specs.inside.Rows.{row_start, row_place}
use Rattle.column_phases.proofs.narrow_writing.write_narrow_column_phase_rows.Given as goal

abbrev pub invariant-loop-place : goal.invariant-loop-place
invariant-loop-place g l = record {
  begun : l.end ≡ row_start (length l.phases.functions.items) (length l.out) l.place;
  made : EachPlace (length l.out) (λ k. k % length l.phases.functions.items < l.place
      → at l.out (row_place (length l.phases.functions.items) (length l.out) k)
      ≡ function_value (g.S.NarrowSource.samples l.source) (map program_case l.function.cases.items) (option_map program_formula l.function.otherwise) l.points.row (l.points.col +ℤ pos k));
}
