use Rattle.std.proofs.Common.{ℕ, ◌+◌, ◌<◌, ◌≤◌, ◌≡◌, List, Some, length, slice_get}
use Rattle.domains.specs.Span.{len_of}
use Rattle.row_plans.specs.Moved.{AreWindowsMoved, states_moved, times_of}
use Rattle.row_plans.specs.Windows.{AreWindowsOf}
use Rattle.row_plans.specs.declared.row_state.RowState.{RowState}
use Rattle.row_plans.proofs.row_state_repeats.list_moved_row_state_windows.Given as goal

abbrev pub invariant-loop-stage : goal.invariant-loop-stage
invariant-loop-stage l = record {
  len : length l.windows.items ≡ l.stage;
  moved : (states : List RowState) (d : ℕ → ℕ) → AreWindowsMoved d states l.begun l.ended
      → AreWindowsOf (states_moved (times_of l.times d) (states_moved d states)) l.windows.items;
  left : (states : List RowState) (d : ℕ → ℕ) → AreWindowsMoved d states l.begun l.ended
      → (g : ℕ) → g < l.stage → (s : RowState) → slice_get (states_moved d states) g ≡ Some s → 0 < times_of l.times d g
      → s.next + times_of l.times d g ≤ len_of s.area.rows;
}
