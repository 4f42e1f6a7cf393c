-- Areas of which each point lies in a supplied tile.
use Rattle.std.specs.Prelude.{ℕ, ℤ, ◌≡◌, Some, slice_get}
use Rattle.domains.specs.Area.{HoldsPoint}
use Rattle.domains.specs.declared.area.Area.{Area}
use Rattle.job.specs.Answers.{grid_of}
use Rattle.job.specs.Pipeline.{Stage, Pipeline}
use Rattle.tile_sources.specs.KnownTiles.{KnownTiles, HasWholeTiles, IsGivenAt}

-- each point of an area lies in a supplied tile of stage g
pub record IsGivenArea (job : Pipeline) (given : KnownTiles) (g : ℕ) (area : Area) : Type 0 where
  pub stage : Stage
  pub there : slice_get job.stages g ≡ Some stage
  pub whole : HasWholeTiles given g (grid_of job stage)
  pub points : (r c : ℤ) → HoldsPoint area r c → IsGivenAt given g (grid_of job stage) r c
