-- What the steps of a check of a plan find.
use Rattle.std.specs.Prelude.{ℕ, ◌≡◌, List, All, Some, map, slice_get}
use Rattle.job.specs.Pipeline.{Pipeline}
use Rattle.job.specs.Views.{stage_view}
use Rattle.row_plans.specs.Taken.{AreRowsReadOf}
use Rattle.row_plans.specs.declared.row_state.RowState.{RowState}
use Rattle.row_plans.specs.declared.stage_rows_read.StageRowsRead.{StageRowsRead}

-- the list has the stages of the job, each with what its rows are made of
pub record AreStagesRead (job : Pipeline) (list : List StageRowsRead) : Type 0 where
  pub stages : map (λ x. stage_view x.stage.now) list ≡ job.stages
  pub covered : All (λ x. AreRowsReadOf (stage_view x.stage.now) x.reads.items) list

-- the state of stage g has the domain of the stage of its number
pub record HasStage (list : List StageRowsRead) (g : ℕ) (state : RowState) : Type 0 where
  pub read : StageRowsRead
  pub there : slice_get list g ≡ Some read
  pub area : state.area ≡ read.stage.now.domain

-- and so has each state
pub record AreStatesOf (list : List StageRowsRead) (states : List RowState) : Type 0 where
  pub each : (g : ℕ) (state : RowState) → slice_get states g ≡ Some state → HasStage list g state
