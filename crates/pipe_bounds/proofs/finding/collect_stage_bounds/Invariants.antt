use Rattle.std.proofs.Common.{ℕ, ◌≡◌, Some, length, slice_get}
use Rattle.pipe_tree.specs.Tree.{Declaration, declarations}
use Rattle.pipe_checks.specs.declared.symbol.Symbol.{Symbol}
use Rattle.pipe_bounds.specs.StageBounds.{StageBounds, IsBoundsOf}
use Rattle.pipe_bounds.proofs.finding.collect_stage_bounds.Given as goal

abbrev pub invariant-loop-stage : goal.invariant-loop-stage
invariant-loop-stage l = record {
  each : length l.found.items ≡ l.stage;
  stage : (k : ℕ) (s : Symbol) (b : StageBounds) → slice_get l.stages k ≡ Some s → slice_get l.found.items k ≡ Some b
      → (d : Declaration) × (slice_get (declarations l.items) s.item ≡ Some d) × IsBoundsOf l.params d b;
}
