-- What is stored while a job runs.
use Rattle.std.specs.Prelude.{ℕ, ℤ, ◌≡◌, ◌<◌, Bool, Some, List, map, length, slice_get}
use Rattle.std.specs.List.{range_with_len}
use Rattle.domains.specs.Tiles.{HasTile, tile_cols}
use Rattle.domains.specs.declared.grid.Grid.{Grid}
use Rattle.job.specs.Pipeline.{Stage, Pipeline}
use Rattle.job.specs.Answers.{grid_of}
use Rattle.tile_sources.specs.KnownTiles.{KnownTiles, AreTrue, HasTrueTiles}
use Rattle.tile_run.specs.StageRuns.{FitsAt, row_values}
use Rattle.tile_run.specs.Stored.{stored_tiles, tile_numbers, IsStoredFunction, GivesTilesOf}
use Rattle.one_tile.specs.declared.tile_rows.StageTiles.{StageTiles}

-- the values of the first n rows of tiles
abbrev pub grid_values : Pipeline → ℕ → Grid → ℕ → List (List (List ℤ))
grid_values job g grid n = map (λ i. row_values job g grid i (tile_cols grid)) (range_with_len 0 n)

-- the tiles of stage g: true ones, and all of a stored function
pub record AreTilesOf (job : Pipeline) (inlining : List Bool) (g : ℕ) (tiles : StageTiles) : Type 0 where
  pub right : (s : Stage) → slice_get job.stages g ≡ Some s → HasTrueTiles job (λ h. tile_numbers (Some tiles)) g (grid_of job s)
  pub all : (s : Stage) → IsStoredFunction job inlining g s → GivesTilesOf job (λ h. tile_numbers (Some tiles)) g s

-- each tile of a stored function of a lower rank is supplied, with its values
abbrev pub GivesBelow : Pipeline → List Bool → ℕ → KnownTiles → Type 0
GivesBelow job inlining rank given =
    (g : ℕ) (s : Stage) → IsStoredFunction job inlining g s → s.rank < rank → GivesTilesOf job given g s

-- what is stored is true, and all tiles of the stored functions of lower ranks are there
pub record AreStored (job : Pipeline) (inlining : List Bool) (rank : ℕ) (stages : List StageTiles) : Type 0 where
  pub length : length stages ≡ length job.stages
  pub right : AreTrue job (stored_tiles stages)
  pub all : GivesBelow job inlining rank (stored_tiles stages)

-- each tile of a stored function fits in scratch memory
abbrev pub StoredFit : Pipeline → List Bool → Type 0
StoredFit job inlining = (g : ℕ) (s : Stage) → IsStoredFunction job inlining g s → (i j : ℕ) → HasTile (grid_of job s) i j
    → FitsAt job inlining g (grid_of job s) i j
