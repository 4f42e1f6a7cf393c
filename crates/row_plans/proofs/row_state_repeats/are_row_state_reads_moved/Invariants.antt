use Rattle.std.proofs.Common.{ℕ, ◌<◌, ◌≡◌, All, List, Some, slice_get}
use Rattle.row_plans.specs.Moved.{AreWindowsMoved, IsReadMoved}
use Rattle.row_plans.specs.declared.row_state.RowState.{RowState}
use Rattle.row_plans.specs.declared.stage_rows_read.StageRowsRead.{StageRowsRead}
use Rattle.row_plans.proofs.row_state_repeats.are_row_state_reads_moved.Given as goal

abbrev pub invariant-loop-stage : goal.invariant-loop-stage
invariant-loop-stage l =
    (states : List RowState) (d : ℕ → ℕ) → AreWindowsMoved d states l.begun l.ended
    → (g : ℕ) → g < l.stage → (x : StageRowsRead) → slice_get l.rows g ≡ Some x → All (IsReadMoved d states g) x.reads.items
