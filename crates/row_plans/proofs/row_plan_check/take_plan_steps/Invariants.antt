use Rattle.std.proofs.Common.{List, take}
use Rattle.row_plans.specs.Leads.{IsTaken}
use Rattle.row_plans.specs.Windows.{AreWindowsOf}
use Rattle.row_plans.specs.declared.row_state.RowState.{RowState}
use Rattle.row_plans.proofs.row_plan_check.take_plan_steps.Given as goal

abbrev pub invariant-loop-step : goal.invariant-loop-step
invariant-loop-step l =
    (states : List RowState) → AreWindowsOf states l.initial.windows
    → IsTaken l.rows l.outputs l.row states (take l.step-index l.steps) l.next l.windows
