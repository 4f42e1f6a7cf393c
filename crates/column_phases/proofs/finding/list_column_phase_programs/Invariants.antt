use Rattle.std.proofs.Common.{ℕ, ◌≡◌, ◌≤◌, Some, length, map, slice_get}
use Rattle.std.specs.Option.{option_map}
use Rattle.job.specs.Views.{case_view, formula_view}
use Rattle.job.specs.declared.stage.Function.{Function}
use Rattle.narrow_eval.specs.NarrowPrograms.{IsProgramOf}
use Rattle.narrow_eval.specs.declared.narrow_case.NarrowFunction.{NarrowFunction}
use Rattle.column_phases.proofs.finding.list_column_phase_programs.Given as goal

abbrev pub invariant-loop-function : goal.invariant-loop-function
invariant-loop-function l = record {
  few : l.function-index ≤ length l.functions;
  count : length l.made.items ≡ l.function-index;
  programs : (p : ℕ) (q : NarrowFunction) → slice_get l.made.items p ≡ Some q → (f : Function) → slice_get l.functions p ≡ Some f
      → IsProgramOf q (map case_view f.cases.items) (option_map formula_view f.otherwise);
}
