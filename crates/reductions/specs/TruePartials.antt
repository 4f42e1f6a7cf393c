-- What an accumulator accumulates over a tile, by the values of the job.
use Rattle.std.specs.Prelude.{ℕ, ℤ, ◌≡◌, true, Some, List, slice_get}
use Rattle.domains.specs.Area.{IsArea, IsSubarea}
use Rattle.domains.specs.declared.area.Area.{Area}
use Rattle.job.specs.Answers.{is_accumulator}
use Rattle.job.specs.Pipeline.{Stage, Pipeline}
use Rattle.job.specs.Totals.{totals_over}
use Rattle.tile_eval.specs.Raster.{IsTileOver}

-- the area is that of the tile of an accumulator in row i and column j
pub record IsAccumulatorTile (job : Pipeline) (g i j : ℕ) (area : Area) : Type 0 where
  pub stage : Stage
  pub tile : IsTileOver job g i j stage area
  pub accumulator : is_accumulator stage.body ≡ true

-- the bins are the totals of an accumulator over its tile in row i and column j
pub record IsTruePartial (job : Pipeline) (g i j : ℕ) (bins : List ℤ) : Type 0 where
  pub area : Area
  pub tile : IsAccumulatorTile job g i j area
  pub totals : bins ≡ totals_over job area g

-- the area lies in the domain of stage g
pub record IsDomainPart (job : Pipeline) (g : ℕ) (area : Area) : Type 0 where
  pub is : IsArea area
  pub within : (s : Stage) → slice_get job.stages g ≡ Some s → IsSubarea area s.domain
