use Rattle.std.proofs.Common.{◌≡◌, length}
use Rattle.row_plans.specs.Windows.{AreWindowsOf}
use Rattle.row_plans.proofs.row_state_windows.list_row_state_windows.Given as goal

abbrev pub invariant-loop-state : goal.invariant-loop-state
invariant-loop-state l = (length l.windows.items ≡ l.state-index) × AreWindowsOf l.states l.windows.items
