use Rattle.std.proofs.Common.{All, List, take}
use Rattle.row_plans.specs.Taken.{AreTakenKept}
use Rattle.row_plans.specs.Windows.{AreWindowsOf}
use Rattle.row_plans.specs.declared.row_state.RowState.{RowState}
use Rattle.row_plans.proofs.stage_rows_read.StageRowsRead.are_rows_read_kept.Given as goal

abbrev pub invariant-loop-read : goal.invariant-loop-read
invariant-loop-read l =
    (states : List RowState) → AreWindowsOf states l.windows → All (AreTakenKept states l.fn.stage l.fn.row) (take l.read-index l.self.reads.items)
