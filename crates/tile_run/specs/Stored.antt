-- Tiles in memory, and what a run makes of a job.
use Rattle.std.specs.Prelude.{ℕ, ℤ, ◌≡◌, Bool, true, false, Option, Some, None, List, slice_get}
use Rattle.std.specs.Option.{option_map}
use Rattle.domains.specs.Tiles.{HasTile, tile_area}
use Rattle.job.specs.Pipeline.{Stage, Pipeline}
use Rattle.job.specs.Answers.{grid_of}
use Rattle.job.specs.Values.{value}
use Rattle.tile_boxes.specs.Schedules.{is_inlined, is_function_body}
use Rattle.tile_eval.specs.Raster.{raster}
use Rattle.tile_sources.specs.KnownTiles.{KnownTiles}
use Rattle.one_tile.specs.declared.tile_rows.TileRow.{TileRow}
use Rattle.one_tile.specs.declared.tile_rows.StageTiles.{StageTiles}

-- ---- tiles in memory

-- the numbers of the tile at place j of a row, if it is there
abbrev pub numbers_in : Option TileRow → ℕ → Option (List ℤ)
numbers_in None j = None
numbers_in (Some row) j = option_map (λ t. t.items) (slice_get row.tiles.items j)

-- those of the tile in row i and column j
abbrev pub tile_numbers : Option StageTiles → ℕ → ℕ → Option (List ℤ)
tile_numbers None i j = None
tile_numbers (Some tiles) i j = numbers_in (slice_get tiles.rows.items i) j

abbrev pub stored_tiles : List StageTiles → KnownTiles
stored_tiles stages g i j = tile_numbers (slice_get stages g) i j

-- ---- what is stored of a job

-- a function that is not inlined
pub record IsStoredFunction (job : Pipeline) (inlining : List Bool) (g : ℕ) (s : Stage) : Type 0 where
  pub there : slice_get job.stages g ≡ Some s
  pub function : is_function_body s.body ≡ true
  pub stored : is_inlined inlining g ≡ false

-- each tile of a stage is supplied, with its values
abbrev pub GivesTilesOf : Pipeline → KnownTiles → ℕ → Stage → Type 0
GivesTilesOf job given g s =
    (i j : ℕ) → HasTile (grid_of job s) i j → given g i j ≡ Some (raster (tile_area (grid_of job s) i j) (value job g))

-- so is each tile of each stored function
abbrev pub GivesAllTiles : Pipeline → List Bool → KnownTiles → Type 0
GivesAllTiles job inlining given = (g : ℕ) (s : Stage) → IsStoredFunction job inlining g s → GivesTilesOf job given g s
