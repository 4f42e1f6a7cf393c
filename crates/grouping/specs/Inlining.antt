-- A schedule as contracts see it: for each stage, whether it is inlined; what each stage costs; and whether each tile is known to
-- fit in scratch memory.
use Rattle.std.specs.Prelude.{ℕ, ◌≡◌, Bool, true, Option, List}
use Rattle.job.specs.Pipeline.{Pipeline}
use Rattle.tile_boxes.specs.Schedules.{IsSchedule, IsInlinedOutput, StoresOutputs, inlining_for}
use Rattle.tile_boxes.specs.Costs.{survey_stage_costs, AllFitScratch}
use Rattle.grouping.specs.declared.fault.ScheduleFault.{ScheduleFault}
use Rattle.grouping.specs.declared.fault.ScheduleFault.TheVariants.{OutputInlined, Memory}

pub record Inlining : Type 0 where
  pub inlining : List Bool
  pub costs : List (Option ℕ)
  pub fits : Bool

-- what it inlines makes a schedule of the job, and its costs are the job's. If `fits` holds, each tile fits in scratch memory
pub record IsScheduleOf (job : Pipeline) (s : Inlining) : Type 0 where
  pub inlining : IsSchedule job s.inlining
  pub costs : s.costs ≡ survey_stage_costs job s.inlining
  pub fits : s.fits ≡ true → AllFitScratch job s.inlining

-- ---- faults

-- why the request makes no schedule. Memory is refused only if no output is requested
abbrev pub IsScheduleFault : Pipeline → List Bool → ScheduleFault → Type 0
IsScheduleFault job asked (OutputInlined g) = IsInlinedOutput job (inlining_for job asked) g
IsScheduleFault job asked Memory = StoresOutputs job (inlining_for job asked)
