use Rattle.std.proofs.Common.{ℕ, All, List, take}
use Rattle.row_plans.specs.Moved.{AreWindowsMoved, IsReadMoved}
use Rattle.row_plans.specs.declared.row_state.RowState.{RowState}
use Rattle.row_plans.proofs.stage_rows_read.StageRowsRead.are_rows_read_moved.Given as goal

abbrev pub invariant-loop-read : goal.invariant-loop-read
invariant-loop-read l =
    (states : List RowState) (d : ℕ → ℕ) → AreWindowsMoved d states l.begun l.ended
    → All (IsReadMoved d states l.fn.stage) (take l.read-index l.self.reads.items)
