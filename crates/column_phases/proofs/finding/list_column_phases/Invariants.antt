use Rattle.std.proofs.Common.{ℕ, ◌≡◌, Some, length, map, slice_get}
use Rattle.std.specs.Option.{option_map}
use Rattle.job.specs.Views.{case_view, formula_view}
use Rattle.job.specs.declared.stage.Function.{Function}
use Rattle.column_phases.specs.Phases.{IsPhaseOf}
use Rattle.column_phases.proofs.finding.list_column_phases.Given as goal

abbrev pub invariant-loop-rest : goal.invariant-loop-rest
invariant-loop-rest l = record {
  count : length l.functions.items ≡ l.rest;
  phases : (p : ℕ) (f : Function) → slice_get l.functions.items p ≡ Some f
      → IsPhaseOf l.period p f (map case_view l.function.cases.items) (option_map formula_view l.function.otherwise);
}
