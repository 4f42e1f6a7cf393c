-- Steps of plans that lead from some states to others.
use Rattle.std.specs.Prelude.{ℕ, zero, suc, ◌+◌, ◌<◌, ◌≤◌, ◌≡◌, pos, ◌+ℤ◌, List, [], ◌∷◌, ◌++◌, All, Some, slice_get}
use Rattle.domains.specs.Span.{len_of}
use Rattle.job.specs.Views.{stage_view}
use Rattle.job.specs.WellFormed.{IsValued}
use Rattle.row_plans.specs.Plans.{states_after}
use Rattle.row_plans.specs.Rows.{IsKeptRow, next_row}
use Rattle.row_plans.specs.Taken.{AreTakenKept}
use Rattle.row_plans.specs.Windows.{AreWindowsOf}
use Rattle.row_plans.specs.declared.plan.PlanStep.{PlanStep}
use Rattle.row_plans.specs.declared.plan.PlanStep.TheVariants.{Make, Output}
use Rattle.row_plans.specs.declared.row_state.RowState.{RowState}
use Rattle.row_plans.specs.declared.row_state_window.RowStateWindow.{RowStateWindow}
use Rattle.row_plans.specs.declared.stage_rows_read.StageRowsRead.{StageRowsRead}

-- the next row of stage g can be made: the stage has values, and the row lies in the domain, from the first row that is made on. A row
-- is to be kept, and all that it reads is
pub record CanMakeRow (list : List StageRowsRead) (states : List RowState) (g : ℕ) : Type 0 where
  pub read : StageRowsRead
  pub there : slice_get list g ≡ Some read
  pub valued : IsValued (stage_view read.stage.now).body
  pub state : RowState
  pub own : slice_get states g ≡ Some state
  pub begun : state.first ≤ state.next
  pub left : state.next < len_of state.area.rows
  pub some : 0 < state.kept
  pub reads : All (AreTakenKept states g (next_row state)) read.reads.items

-- row y of stage g, counted from the first one of its domain, is kept
abbrev pub IsOutputRowKept : List RowState → ℕ → ℕ → Type 0
IsOutputRowKept states y g = (s : RowState) × (slice_get states g ≡ Some s) × IsKeptRow s (s.area.rows.lo +ℤ pos y)

-- the steps can be taken one after the other from these states and row y of the picture on, and lead to other states and row z
abbrev pub Leads : List StageRowsRead → List ℕ → List RowState → ℕ → List PlanStep → List RowState → ℕ → Type 0
Leads list outputs states y [] after z = (states ≡ after) × (y ≡ z)
Leads list outputs states y (Make g ∷ steps) after z = CanMakeRow list states g × Leads list outputs (states_after states g) y steps after z
Leads list outputs states y (Output ∷ steps) after z = All (IsOutputRowKept states y) outputs × Leads list outputs states (y + 1) steps after z

-- the steps lead from row y to row z
pub record IsTakenThrough (list : List StageRowsRead) (outputs : List ℕ) (y : ℕ) (states : List RowState) (steps : List PlanStep) (z : ℕ) : Type 0 where
  pub after : List RowState
  pub leads : Leads list outputs states y steps after z

-- and these are the windows of the states then
pub record IsTaken (list : List StageRowsRead) (outputs : List ℕ) (y : ℕ) (states : List RowState) (steps : List PlanStep) (z : ℕ)
    (windows : List RowStateWindow) : Type 0 where
  pub after : List RowState
  pub windows_after : AreWindowsOf after windows
  pub leads : Leads list outputs states y steps after z

-- some steps n times
abbrev pub copies_of : ℕ → List PlanStep → List PlanStep
copies_of zero steps = []
copies_of (suc n) steps = steps ++ copies_of n steps
