-- The output of `plan` in bytes: whether each function and accumulator is stored, and what it then costs.
use Rattle.std.specs.Prelude.{◌≡◌, ℕ, Bool, if◌then◌else◌, Option, Some, None, List, [], ◌∷◌, ◌++◌, codes, length, slice_get}
use Rattle.std.specs.Fmt.{decimal}
use Rattle.std.specs.List.{flat_map, range_with_len}
use Rattle.std.specs.Option.{option_map_or}
use Rattle.pipe_tree.specs.Tree.{Declaration}
use Rattle.job.specs.Answers.{has_tiles}
use Rattle.job.specs.Pipeline.{Stage, Pipeline}
use Rattle.tile_boxes.specs.Costs.{cost}
use Rattle.tile_boxes.specs.Costs.{AllFitScratch}
use Rattle.tile_boxes.specs.Schedules.{IsSchedule}
use Rattle.command_jobs.specs.RequestedSchedule.{requested_inlining}

-- ---- lines of stages

-- inlined functions have no cost
abbrev pub plan_line : List ℕ → Option ℕ → List ℕ
plan_line name None = codes "inlined " ++ name ++ 10 ∷ []
plan_line name (Some points) = codes "stored " ++ name ++ codes " cost " ++ decimal points ++ 10 ∷ []

-- the line of a function or an accumulator
abbrev pub stage_plan : Pipeline → List Bool → ℕ → Stage → List ℕ
stage_plan job inlining g s = if has_tiles s.body then plan_line s.name (cost job inlining g) else []

abbrev pub plan_line_at : Pipeline → List Bool → ℕ → List ℕ
plan_line_at job inlining g = option_map_or (stage_plan job inlining g) (slice_get job.stages g) []

-- ---- the whole

-- the functions and accumulators in the order of the stages
abbrev pub plan_bytes : Pipeline → List Bool → List ℕ
plan_bytes job inlining = flat_map (plan_line_at job inlining) (range_with_len 0 (length job.stages))

-- the bytes report this inlining, a schedule of the job under which each tile fits into scratch memory
pub record IsPlan (job : Pipeline) (inlining : List Bool) (bytes : List ℕ) : Type 0 where
  pub schedule : IsSchedule job inlining
  pub fits : AllFitScratch job inlining
  pub tells : bytes ≡ plan_bytes job inlining

-- the output of `plan` for a job: the requested schedule
abbrev pub SaysPlan : Bool → ℕ → List Declaration → Pipeline → List ℕ → Type 0
SaysPlan stored percent tree job bytes = IsPlan job (requested_inlining stored percent job) bytes
