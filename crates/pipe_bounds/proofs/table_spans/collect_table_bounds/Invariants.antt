use Rattle.std.proofs.Common.{ℕ, ◌≡◌, Some, Ok, length, slice_get}
use Rattle.domains.specs.Span.{Ends}
use Rattle.pipe_tree.specs.Tree.{declarations}
use Rattle.pipe_checks.specs.declared.symbol.Symbol.{Symbol}
use Rattle.pipe_bounds.specs.Tables.{IsTableSpan}
use Rattle.pipe_bounds.proofs.table_spans.collect_table_bounds.Given as goal

abbrev pub invariant-loop-table : goal.invariant-loop-table
invariant-loop-table l = record {
  each : length l.spans.items ≡ l.table;
  span : (k : ℕ) (s : Symbol) (e : Ends) → slice_get l.tables k ≡ Some s → slice_get l.spans.items k ≡ Some e
      → IsTableSpan l.params (declarations l.items) s (Ok e);
}
