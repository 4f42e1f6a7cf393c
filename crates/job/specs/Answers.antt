-- What a job answers: the picture of its output, and the tiles that it takes.
use Rattle.std.specs.Prelude.{ℕ, ◌==◌, ℤ, pos, unsigned_abs, Bool, true, false, ◌||◌, if◌then◌else◌, Option, List, [], map}
use Rattle.std.specs.Prelude.{filter, length, slice_get, slice_index}
use Rattle.std.specs.List.{flat_map, list_any, range_with_len}
use Rattle.std.specs.Option.{option_map, option_map_or}
use Rattle.domains.specs.Arithmetic.{clamped}
use Rattle.domains.specs.Span.{len_of}
use Rattle.domains.specs.Area.{points_of}
use Rattle.domains.specs.Tiles.{tiles_of}
use Rattle.domains.specs.declared.area.Area.{Area}
use Rattle.domains.specs.declared.grid.Grid.{Grid}
use Rattle.netpbm.specs.Image.{Image}
use Rattle.job.specs.Pipeline.{Body, plane, function, accumulator, Stage, Output, Pipeline}
use Rattle.job.specs.Values.{value}

-- ---- the picture

-- a value clamped to 0 and the greatest sample
abbrev pub sample_of : ℕ → ℤ → ℕ
sample_of max v = unsigned_abs (clamped v (pos 0) (pos max))

-- the clamped values of a stage on an area, row by row
abbrev pub samples_over : Pipeline → ℕ → ℕ → Area → List ℕ
samples_over job max g area = map (λ p. sample_of max (value job g p.0 p.1)) (points_of area)

abbrev pub samples : Pipeline → ℕ → ℕ → List ℕ
samples job max g = option_map_or (λ s. samples_over job max g s.domain) (slice_get job.stages g) []

-- the sides of a stage's domain
abbrev pub height_of : Pipeline → ℕ → ℕ
height_of job g = option_map_or (λ s. len_of s.domain.rows) (slice_get job.stages g) 0

abbrev pub width_of : Pipeline → ℕ → ℕ
width_of job g = option_map_or (λ s. len_of s.domain.cols) (slice_get job.stages g) 0

-- a plane for each stage of the output; their domains have equal sides
abbrev pub picture_of : Pipeline → Output → Image
picture_of job o =
    record {
      rows =
          height_of job (slice_index o.stages 0);
      cols =
          width_of job (slice_index o.stages 0);
      max = o.max;
      planes = map (samples job o.max) o.stages;
    }

-- the picture of a job that has an output
abbrev pub image : Pipeline → Option Image
image job = option_map (picture_of job) job.output

-- ---- tiles

-- a tile, by its stage and its place in the grid
pub record Tile : Type 0 where
  pub stage : ℕ
  pub row : ℕ
  pub col : ℕ

abbrev pub grid_of : Pipeline → Stage → Grid
grid_of job s = record { area = s.domain; sides = job.sides }

-- functions have tiles, and so have accumulators, of the area that they reduce; planes have none
abbrev pub has_tiles : Body → Bool
has_tiles (plane n) = false
has_tiles (function cases otherwise) = true
has_tiles (accumulator fold bins value bin) = true

abbrev pub is_accumulator : Body → Bool
is_accumulator (plane n) = false
is_accumulator (function cases otherwise) = false
is_accumulator (accumulator fold bins value bin) = true

-- the tiles of a stage, row by row
abbrev pub tiles : Pipeline → ℕ → List Tile
tiles job g =
    option_map_or (λ s. if has_tiles s.body then map (λ t. record { stage = g; row = t.0; col = t.1 }) (tiles_of (grid_of job s)) else [])
    (slice_get job.stages g) []

abbrev pub is_output : Pipeline → ℕ → Bool
is_output job g = option_map_or (λ o. list_any (λ h. h == g) o.stages) job.output false

abbrev pub is_accumulator_at : Pipeline → ℕ → Bool
is_accumulator_at job g = option_map_or (λ s. is_accumulator s.body) (slice_get job.stages g) false

abbrev pub is_result : Pipeline → ℕ → Bool
is_result job g = is_output job g || is_accumulator_at job g

-- the tiles from which the answer is assembled: those of outputs and accumulators, each once, stage by stage
abbrev pub wanted : Pipeline → List Tile
wanted job = flat_map (tiles job) (filter (is_result job) (range_with_len 0 (length job.stages)))
