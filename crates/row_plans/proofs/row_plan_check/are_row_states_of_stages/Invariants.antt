use Rattle.std.proofs.Common.{ℕ, ◌<◌, ◌≡◌, slice_get, Some}
use Rattle.row_plans.specs.Checks.{HasStage}
use Rattle.row_plans.specs.declared.row_state.RowState.{RowState}
use Rattle.row_plans.proofs.row_plan_check.are_row_states_of_stages.Given as goal

abbrev pub invariant-loop-stage : goal.invariant-loop-stage
invariant-loop-stage l = (g : ℕ) → g < l.stage → (state : RowState) → slice_get l.states g ≡ Some state → HasStage l.rows g state
