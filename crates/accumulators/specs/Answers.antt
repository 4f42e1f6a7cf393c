-- The answer of a job: the picture of its output and the totals of its accumulators.
use Rattle.std.specs.Prelude.{ℕ, ℤ, ◌≡◌, Bool, Option, Some, List, [], ◌∷◌, map, length, slice_get}
use Rattle.std.specs.List.{flat_map, range_with_len}
use Rattle.std.specs.Option.{option_map, option_map_or, option_or}
use Rattle.job.specs.Answers.{Tile, image}
use Rattle.job.specs.Pipeline.{Body, plane, function, accumulator, Pipeline}
use Rattle.job.specs.Totals.{totals}
use Rattle.overlap_tiles.specs.Needs.{key_of}
use Rattle.tile_run.specs.Work.{first_too_big, is_accumulator_at, is_stored_function}
use Rattle.tile_run.specs.declared.fault.RunFault.{RunFault}
use Rattle.tile_run.specs.declared.fault.RunFault.TheVariants.{ScratchTooBig, Memory}
use Rattle.accumulators.specs.declared.answer.Answer.{Answer}
use Rattle.accumulators.specs.declared.answer.Total.{Total}

-- a stage, its first bin, and the values of its bins from there on
pub record Gathered : Type 0 where
  pub stage : ℕ
  pub lo : ℤ
  pub bins : List ℤ

abbrev pub gathered : Total → Gathered
gathered t = record { stage = t.stage; lo = t.lo; bins = t.bins.items }

-- the totals of a stage, if it is an accumulator
abbrev pub body_gathered : Pipeline → ℕ → Body → List Gathered
body_gathered job g (accumulator way bins value bin) = record { stage = g; lo = bins.lo; bins = totals job g } ∷ []
body_gathered job g (plane n) = []
body_gathered job g (function cases otherwise) = []

abbrev pub gathered_at : Pipeline → ℕ → List Gathered
gathered_at job g = option_map_or (λ s. body_gathered job g s.body) (slice_get job.stages g) []

-- the totals of all accumulators, in the order of the stages
abbrev pub all_gathered : Pipeline → List Gathered
all_gathered job = flat_map (gathered_at job) (range_with_len 0 (length job.stages))

-- the picture is the job's image, if it has one, and the totals are those of all accumulators
pub record IsAnswer (job : Pipeline) (answer : Answer) : Type 0 where
  pub picture : answer.picture ≡ image job
  pub totals : map gathered answer.totals.items ≡ all_gathered job

-- ---- why a job has no answer

-- the first tile that does not fit into scratch memory: of stored functions, or if all of these fit, of accumulators
abbrev pub first_lacking_room : Pipeline → List Bool → Option Tile
first_lacking_room job inlining =
    option_or (first_too_big job inlining (is_stored_function job inlining)) (first_too_big job inlining (is_accumulator_at job))

-- the key is that of the first tile that does not fit into scratch memory; memory may be refused at any time
abbrev pub IsEvaluationFault : List ℕ → Pipeline → List Bool → RunFault → Type 0
IsEvaluationFault program job inlining (ScratchTooBig key) = option_map (key_of program job) (first_lacking_room job inlining) ≡ Some key
IsEvaluationFault program job inlining Memory = Unit {0}
