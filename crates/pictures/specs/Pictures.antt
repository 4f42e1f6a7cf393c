-- The picture of a job's output, from supplied numbers of its functions.
use Rattle.std.specs.Prelude.{ℕ, ◌≡◌, Option, Some, List, [], map, slice_get, slice_index, All}
use Rattle.std.specs.Option.{option_map, option_map_or}
use Rattle.domains.specs.Area.{points_of}
use Rattle.netpbm.specs.Image.{Image}
use Rattle.job.specs.Answers.{height_of, sample_of, width_of}
use Rattle.job.specs.Pipeline.{Output, Pipeline, Stage}
use Rattle.job.specs.Values.{Valuation}
use Rattle.tile_sources.specs.KnownTiles.{KnownTiles, given_at, IsGivenStage}

-- the numbers of a stage, clamped to 0 and the greatest sample, row by row, where env has the number at each point
abbrev pub samples_from : Pipeline → Valuation → ℕ → ℕ → List ℕ
samples_from job env max g =
    option_map_or (λ s. map (λ p. sample_of max (env g p.0 p.1)) (points_of s.domain)) (slice_get job.stages g) []

-- the picture of an output, with these planes
abbrev pub picture_with : Pipeline → Output → List (List ℕ) → Image
picture_with job o planes = record {
  rows = height_of job (slice_index o.stages 0);
  cols = width_of job (slice_index o.stages 0);
  max = o.max;
  planes = planes;
}

-- a plane for each stage of the output
abbrev pub picture_from : Pipeline → Valuation → Output → Image
picture_from job env o = picture_with job o (map (samples_from job env o.max) o.stages)

-- the picture of a job that has an output, from whatever numbers are supplied
abbrev pub given_image : Pipeline → KnownTiles → Option Image
given_image job given = option_map (picture_from job (given_at job given)) job.output

-- all tiles of stage g are supplied, each with as many numbers as points
abbrev pub IsLentStage : Pipeline → KnownTiles → ℕ → Type 0
IsLentStage job given g = (s : Stage) × IsGivenStage job given g s

-- and so are those of each function of the output
abbrev pub GivesOutputs : Pipeline → KnownTiles → Type 0
GivesOutputs job given = (o : Output) → job.output ≡ Some o → All (IsLentStage job given) o.stages
