use Rattle.std.proofs.Common.{All, List, take}
use Rattle.row_plans.specs.Leads.{IsOutputRowKept}
use Rattle.row_plans.specs.Windows.{AreWindowsOf}
use Rattle.row_plans.specs.declared.row_state.RowState.{RowState}
use Rattle.row_plans.proofs.row_plan_check.is_planned_row_kept_for_all_outputs.Given as goal

abbrev pub invariant-loop-output : goal.invariant-loop-output
invariant-loop-output l =
    (states : List RowState) → AreWindowsOf states l.windows → All (IsOutputRowKept states l.row) (take l.output-index l.outputs)
