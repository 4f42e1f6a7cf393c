-- The value of a stage at a point by the supplied numbers of stored functions.
use Rattle.std.specs.Prelude.{ℕ, zero, suc, ◌≡◌, ℤ, pos, Bool, true, false, if◌then◌else◌, Option, Some, None, List, slice_get}
use Rattle.domains.specs.Area.{HoldsPoint}
use Rattle.job.specs.Pipeline.{Body, plane, function, accumulator, Stage, Pipeline, rank_of}
use Rattle.job.specs.Answers.{grid_of}
use Rattle.job.specs.Reads.{BodyReads}
use Rattle.job.specs.Values.{Valuation, sample_at, stage_value}
use Rattle.tile_boxes.specs.Schedules.{is_inlined}
use Rattle.tile_sources.specs.KnownTiles.{KnownTiles, given_number, IsGivenAt}

-- ---- what is read

-- of a plane the sample, of a stored function the supplied number, of an inlined function the value of `inner`
abbrev pub body_given : Pipeline → List Bool → KnownTiles → Valuation → ℕ → Stage → Body → ℤ → ℤ → ℤ
body_given job inlining given inner g s (plane n) r c = sample_at job.picture n r c
body_given job inlining given inner g s (function cases otherwise) r c =
    if is_inlined inlining g then inner g r c else given_number job given g s r c
body_given job inlining given inner g s (accumulator fold bins value bin) r c = pos 0

abbrev pub stage_given : Pipeline → List Bool → KnownTiles → Valuation → ℕ → Option Stage → ℤ → ℤ → ℤ
stage_given job inlining given inner g None r c = pos 0
stage_given job inlining given inner g (Some s) r c = body_given job inlining given inner g s s.body r c

abbrev pub read_from : Pipeline → List Bool → KnownTiles → Valuation → Valuation
read_from job inlining given inner g r c = stage_given job inlining given inner g (slice_get job.stages g) r c

-- ---- local values

-- the local values of the stages whose ranks are below this number; for the others it specifies nothing
abbrev pub local_within : Pipeline → List Bool → KnownTiles → ℕ → Valuation
local_within job inlining given zero g r c = pos 0
local_within job inlining given (suc n) g r c =
    stage_value job (read_from job inlining given (local_within job inlining given n)) (slice_get job.stages g) r c

-- the value of stage g at a point of its domain: reads of stored functions take the supplied numbers, and reads of inlined
-- functions their local values
abbrev pub local_value : Pipeline → List Bool → KnownTiles → Valuation
local_value job inlining given g r c = local_within job inlining given (suc (rank_of job.stages g)) g r c

-- ---- what is available

-- a point of a plane; of a stored function a point of a supplied tile; of an inlined function a point for which Inner holds
abbrev pub FunctionAtHand : Bool → Type 0 → Type 0 → Type 0
FunctionAtHand true inner stored = inner
FunctionAtHand false inner stored = stored

abbrev pub BodyAtHand : Pipeline → List Bool → KnownTiles → (ℕ → ℤ → ℤ → Type 0) → ℕ → Stage → Body → ℤ → ℤ → Type 0
BodyAtHand job inlining given Inner g s (plane n) r c = HoldsPoint s.domain r c
BodyAtHand job inlining given Inner g s (function cases otherwise) r c =
    FunctionAtHand (is_inlined inlining g) (Inner g r c) (IsGivenAt given g (grid_of job s) r c)
BodyAtHand job inlining given Inner g s (accumulator fold bins value bin) r c = ⊥

abbrev pub StageAtHand : Pipeline → List Bool → KnownTiles → (ℕ → ℤ → ℤ → Type 0) → ℕ → Option Stage → ℤ → ℤ → Type 0
StageAtHand job inlining given Inner g None r c = ⊥
StageAtHand job inlining given Inner g (Some s) r c = BodyAtHand job inlining given Inner g s s.body r c

abbrev pub IsAtHand : Pipeline → List Bool → KnownTiles → (ℕ → ℤ → ℤ → Type 0) → ℕ → ℤ → ℤ → Type 0
IsAtHand job inlining given Inner g r c = StageAtHand job inlining given Inner g (slice_get job.stages g) r c

-- ---- points that are computed

-- a point of the domain of a stage, at which all that the stage reads is available
pub record IsProvided (job : Pipeline) (inlining : List Bool) (given : KnownTiles) (Inner : ℕ → ℤ → ℤ → Type 0) (g : ℕ)
    (r c : ℤ) : Type 0 where
  pub stage : Stage
  pub there : slice_get job.stages g ≡ Some stage
  pub inside : HoldsPoint stage.domain r c
  pub reads : BodyReads (IsAtHand job inlining given Inner) stage.body r c

-- at each point for which Inner holds all that is read is available
abbrev pub IsClosed : Pipeline → List Bool → KnownTiles → (ℕ → ℤ → ℤ → Type 0) → Type 0
IsClosed job inlining given Inner = (g : ℕ) (r c : ℤ) → Inner g r c → IsProvided job inlining given Inner g r c
