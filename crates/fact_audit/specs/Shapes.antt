-- Which facts could be true by their kind and the count of their numbers.
use Rattle.std.specs.Prelude.{ℕ, ◌≡◌, ℤ, List, Some, length}
use Rattle.reductions.specs.TruePartials.{IsAccumulatorTile}
use Rattle.domains.specs.Area.{point_count}
use Rattle.domains.specs.Span.{Ends, len_of}
use Rattle.domains.specs.declared.area.Area.{Area}
use Rattle.identity.specs.declared.key.Key.{Key}
use Rattle.job.specs.Pipeline.{Pipeline}
use Rattle.job.specs.Readers.{bins_of}
use Rattle.tile_eval.specs.Raster.{IsFunctionTile}
use Rattle.tile_fact.specs.declared.body.Body.{Body}
use Rattle.tile_fact.specs.declared.body.Body.TheVariants.{Tile, Partial}
use Rattle.tile_fact.specs.declared.fact.Fact.{Fact}

-- a number for each point of the function's tile
pub record IsTileShape (job : Pipeline) (g i j : ℕ) (samples : List ℤ) : Type 0 where
  pub area : Area
  pub tile : IsFunctionTile job g i j area
  pub count : length samples ≡ point_count area

-- the accumulator has such a tile, and these are its bins
pub record HasBins (job : Pipeline) (g i j : ℕ) (ends : Ends) : Type 0 where
  pub area : Area
  pub tile : IsAccumulatorTile job g i j area
  pub are : bins_of tile.stage.body ≡ Some ends

-- a number for each of its bins
pub record IsPartialShape (job : Pipeline) (g i j : ℕ) (bins : List ℤ) : Type 0 where
  pub ends : Ends
  pub has : HasBins job g i j ends
  pub count : length bins ≡ len_of ends

abbrev pub BodyFits : Pipeline → Key → Body → Type 0
BodyFits job key (Tile samples) = IsTileShape job key.stage key.row key.col samples
BodyFits job key (Partial bins) = IsPartialShape job key.stage key.row key.col bins

-- the stage and the tile exist, and the kind and the count of the numbers are theirs
abbrev pub FitsJob : Fact → Pipeline → Type 0
FitsJob fact job = BodyFits job fact.key fact.body
