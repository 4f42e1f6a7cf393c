-- Plans of rows, and which of them can be run.
use Rattle.std.specs.Prelude.{ℕ, ◌+◌, ◌<◌, ◌≤◌, ◌≡◌, ◌≢◌, ℤ, pos, ◌+ℤ◌, Some, List, [], ◌∷◌, slice_get, slice_set, All}
use Rattle.std.specs.Option.{option_map_or}
use Rattle.domains.specs.Area.{HoldsPoint}
use Rattle.domains.specs.Span.{len_of}
use Rattle.job.specs.Pipeline.{Stage, Pipeline}
use Rattle.job.specs.Reads.{BodyReads}
use Rattle.job.specs.WellFormed.{IsValued}
use Rattle.row_plans.specs.Rows.{IsKeptAt, IsKeptRow, next_row, one_row_more}
use Rattle.row_plans.specs.declared.plan.PlanStep.{PlanStep}
use Rattle.row_plans.specs.declared.plan.PlanStep.TheVariants.{Make, Output}
use Rattle.row_plans.specs.declared.row_state.RowState.{RowState}

-- all that a stage reads at the points of row r is of other stages, and is kept
abbrev pub AreReadsKept : List RowState → ℕ → Stage → ℤ → Type 0
AreReadsKept states g s r = (c : ℤ) → HoldsPoint s.domain r c → BodyReads (λ h q d. (h ≢ g) × IsKeptAt states h q) s.body r c

-- the next row of stage g can be made: the stage has values and one row more, which is to be kept, and all that it reads is kept
pub record CanMake (job : Pipeline) (states : List RowState) (g : ℕ) : Type 0 where
  pub stage : Stage
  pub there : slice_get job.stages g ≡ Some stage
  pub valued : IsValued stage.body
  pub state : RowState
  pub own : slice_get states g ≡ Some state
  pub area : state.area ≡ stage.domain
  pub begun : state.first ≤ state.next
  pub left : state.next < len_of state.area.rows
  pub some : 0 < state.kept
  pub reads : AreReadsKept states g stage (next_row state)

-- the states once it is made
abbrev pub states_after : List RowState → ℕ → List RowState
states_after states g = option_map_or (λ s. slice_set states g (one_row_more s)) (slice_get states g) states

-- row y of stage g, counted from the first one of its domain, is kept
pub record IsOutputKept (job : Pipeline) (states : List RowState) (y g : ℕ) : Type 0 where
  pub stage : Stage
  pub there : slice_get job.stages g ≡ Some stage
  pub state : RowState
  pub own : slice_get states g ≡ Some state
  pub area : state.area ≡ stage.domain
  pub kept : IsKeptRow state (state.area.rows.lo +ℤ pos y)

-- from row y of the picture up to row end, excluded, the steps can be taken in order. A row of a stage is made when all that it
-- reads is kept. A row of the picture is output when those of its functions are kept
abbrev pub IsRunnable : Pipeline → List ℕ → ℕ → ℕ → List RowState → List PlanStep → Type 0
IsRunnable job outputs end y states [] = y ≡ end
IsRunnable job outputs end y states (Make g ∷ steps) = CanMake job states g × IsRunnable job outputs end y (states_after states g) steps
IsRunnable job outputs end y states (Output ∷ steps) =
    (y < end) × All (IsOutputKept job states y) outputs × IsRunnable job outputs end (y + 1) states steps
