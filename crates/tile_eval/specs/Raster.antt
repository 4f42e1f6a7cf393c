-- Values of stages on areas, and on tiles.
use Rattle.std.specs.Prelude.{ℕ, ◌≡◌, ℤ, Some, List, [], map, slice_get}
use Rattle.std.specs.Option.{option_map_or}
use Rattle.domains.specs.Area.{points_of}
use Rattle.domains.specs.Tiles.{HasTile, tile_area}
use Rattle.domains.specs.declared.area.Area.{Area}
use Rattle.job.specs.Answers.{grid_of}
use Rattle.job.specs.Pipeline.{Body, plane, function, accumulator, Stage, Pipeline}
use Rattle.job.specs.Values.{value}
use Rattle.job.specs.WellFormed.{IsFunction}
pub use Rattle.row_kernels.specs.Places.{place_of}

-- the values of f at the points of an area, row by row
abbrev pub raster : Area → (ℤ → ℤ → ℤ) → List ℤ
raster area f = map (λ p. f p.0 p.1) (points_of area)

-- what a stage is on its domain; an accumulator has no values at points
abbrev pub values_on : Pipeline → ℕ → Area → Body → List ℤ
values_on job g domain (plane n) = raster domain (value job g)
values_on job g domain (function cases otherwise) = raster domain (value job g)
values_on job g domain (accumulator fold bins value bin) = []

-- the values of a plane or a function on its whole domain, row by row; none of other stages
abbrev pub stage_values : Pipeline → ℕ → List ℤ
stage_values job g = option_map_or (λ s. values_on job g s.domain s.body) (slice_get job.stages g) []

-- ---- tiles

-- stage s, of number g, has a tile in row i and column j of its grid, with this area
pub record IsTileOver (job : Pipeline) (g i j : ℕ) (s : Stage) (area : Area) : Type 0 where
  pub there : slice_get job.stages g ≡ Some s
  pub tile : HasTile (grid_of job s) i j
  pub is : area ≡ tile_area (grid_of job s) i j

pub record IsFunctionTile (job : Pipeline) (g i j : ℕ) (area : Area) : Type 0 where
  pub stage : Stage
  pub tile : IsTileOver job g i j stage area
  pub function : IsFunction stage.body

-- the numbers are the values of a function on its tile in row i and column j, row by row
pub record IsTrueTile (job : Pipeline) (g i j : ℕ) (numbers : List ℤ) : Type 0 where
  pub area : Area
  pub tile : IsFunctionTile job g i j area
  pub values : numbers ≡ raster area (value job g)
