-- What is reported of a stage.
use Rattle.std.specs.Prelude.{ℕ, if◌then◌else◌, Option, Some, None, List, slice_get}
use Rattle.domains.specs.Span.{Ends}
use Rattle.domains.specs.declared.grid.Grid.{Grid}
use Rattle.operators.specs.declared.operator.ReductionOp.{ReductionOp}
use Rattle.job.specs.declared.job.StageKind.{StageKind}
use Rattle.job.specs.declared.job.StageKind.TheVariants.{Plane, Function, Accumulator}
use Rattle.job.specs.Pipeline.{JobCase, Body, plane, function, accumulator, Stage, Pipeline}
use Rattle.job.specs.Answers.{grid_of, has_tiles}

abbrev pub body_kind : Body → StageKind
body_kind (plane n) = Plane
body_kind (function cases otherwise) = Function
body_kind (accumulator fold bins value bin) = Accumulator

abbrev pub kind_of : Stage → StageKind
kind_of s = body_kind s.body

-- how an accumulator joins, and which bins
abbrev pub fold_of : Body → Option ReductionOp
fold_of (plane n) = None
fold_of (function cases otherwise) = None
fold_of (accumulator fold bins value bin) = Some fold

abbrev pub bins_of : Body → Option Ends
bins_of (plane n) = None
bins_of (function cases otherwise) = None
bins_of (accumulator fold bins value bin) = Some bins

-- the cases of a function
abbrev pub cases_of : Body → Option (List JobCase)
cases_of (plane n) = None
cases_of (function cases otherwise) = Some cases
cases_of (accumulator fold bins value bin) = None

-- functions and accumulators have tiles
abbrev pub stage_grid : Pipeline → Option Stage → Option Grid
stage_grid job None = None
stage_grid job (Some s) = if has_tiles s.body then Some (grid_of job s) else None

abbrev pub grid_at : Pipeline → ℕ → Option Grid
grid_at job n = stage_grid job (slice_get job.stages n)

abbrev pub stage_fold : Option Stage → Option ReductionOp
stage_fold None = None
stage_fold (Some s) = fold_of s.body

abbrev pub stage_bins : Option Stage → Option Ends
stage_bins None = None
stage_bins (Some s) = bins_of s.body

abbrev pub stage_cases : Option Stage → Option (List JobCase)
stage_cases None = None
stage_cases (Some s) = cases_of s.body
