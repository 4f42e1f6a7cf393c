-- How the tiles of one stage are made.
use Rattle.std.specs.Prelude.{ℕ, ℤ, ◌≡◌, ◌≤◌, Bool, List, map}
use Rattle.std.specs.List.{range_with_len}
use Rattle.domains.specs.Tiles.{HasTile, tile_area}
use Rattle.domains.specs.declared.grid.Grid.{Grid}
use Rattle.job.specs.Pipeline.{Stage, Pipeline}
use Rattle.job.specs.Answers.{grid_of}
use Rattle.job.specs.Values.{value}
use Rattle.tile_boxes.specs.Costs.{scratch, most_scratch}
use Rattle.overlap_tiles.specs.Plans.{TileLayout, IsTileLayout}
use Rattle.tile_eval.specs.Raster.{raster}
use Rattle.tile_sources.specs.KnownTiles.{KnownTiles, AreTrue}
use Rattle.one_tile.specs.Runs.{NeedsGiven}
use Rattle.tile_run.specs.Stored.{IsStoredFunction}
use Rattle.one_tile.specs.declared.tile_rows.TileRow.{TileRow}

-- all that the tiles of stage g need is supplied
abbrev pub GivesNeedsOf : Pipeline → List Bool → KnownTiles → ℕ → Type 0
GivesNeedsOf job inlining given g = (i j : ℕ) (l : TileLayout) → IsTileLayout job inlining g i j l → NeedsGiven given l.needs

-- the tile fits in scratch memory
abbrev pub FitsAt : Pipeline → List Bool → ℕ → Grid → ℕ → ℕ → Type 0
FitsAt job inlining g grid i j = scratch (record { job = job; inlining = inlining; stage = g; region = tile_area grid i j }) ≤ most_scratch

-- all from which the tiles of stage g, a stored function with this grid, are made is available, and it is true
pub record IsStageReady (job : Pipeline) (inlining : List Bool) (given : KnownTiles) (g : ℕ) (grid : Grid) : Type 0 where
  pub stage : Stage
  pub function : IsStoredFunction job inlining g stage
  pub parted : grid ≡ grid_of job stage
  pub fit : (i j : ℕ) → HasTile grid i j → FitsAt job inlining g grid i j
  pub right : AreTrue job given
  pub needs : GivesNeedsOf job inlining given g

-- ---- what is made

-- the numbers of a row of tiles
abbrev pub row_numbers : TileRow → List (List ℤ)
row_numbers row = map (λ t. t.items) row.tiles.items

-- the values of the tile in row i and column j of the grid of stage g
abbrev pub tile_values : Pipeline → ℕ → Grid → ℕ → ℕ → List ℤ
tile_values job g grid i j = raster (tile_area grid i j) (value job g)

-- those of the first n tiles of row i
abbrev pub row_values : Pipeline → ℕ → Grid → ℕ → ℕ → List (List ℤ)
row_values job g grid i n = map (tile_values job g grid i) (range_with_len 0 n)
