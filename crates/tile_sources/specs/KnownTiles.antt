-- What is supplied: numbers of tiles of stages that were computed before.
use Rattle.std.specs.Prelude.{ℕ, ℤ, pos, ◌+ℤ◌, ◌≡◌, Option, Some, List, length, slice_get}
use Rattle.std.specs.Option.{option_map_or}
use Rattle.domains.specs.Area.{point_count, HoldsPoint}
use Rattle.domains.specs.Tiles.{HasTile, tile_area, tile_at}
use Rattle.domains.specs.declared.area.Area.{Area}
use Rattle.domains.specs.declared.grid.Grid.{Grid}
use Rattle.job.specs.Pipeline.{Stage, Pipeline}
use Rattle.job.specs.Answers.{grid_of}
use Rattle.job.specs.Values.{value}
use Rattle.tile_eval.specs.Rows.{EachPlace, at}
use Rattle.tile_eval.specs.Raster.{place_of, raster}

-- of a stage, and of the row and the column of a tile in its grid, the numbers of the tile, if they are supplied
abbrev pub KnownTiles : Type 0
KnownTiles = ℕ → ℕ → ℕ → Option (List ℤ)

-- the number of a point of an area, whose numbers are in order row by row
abbrev pub number_in : Area → ℤ → ℤ → Option (List ℤ) → ℤ
number_in area r c numbers = option_map_or (λ xs. at xs (place_of area r c)) numbers (pos 0)

-- the number that is supplied of a stage with this grid at a point: that of the tile in which the point lies
abbrev pub number_at : KnownTiles → ℕ → Grid → ℤ → ℤ → ℤ
number_at given g grid r c =
    number_in (tile_area grid (tile_at grid r c).0 (tile_at grid r c).1) r c (given g (tile_at grid r c).0 (tile_at grid r c).1)

abbrev pub given_number : Pipeline → KnownTiles → ℕ → Stage → ℤ → ℤ → ℤ
given_number job given g s r c = number_at given g (grid_of job s) r c

-- the tile in which the point lies is supplied
abbrev pub IsGiven : KnownTiles → ℕ → Grid → ℤ → ℤ → Type 0
IsGiven given g grid r c = (xs : List ℤ) × (given g (tile_at grid r c).0 (tile_at grid r c).1 ≡ Some xs)

-- the point lies in the area, and its tile is supplied
abbrev pub IsGivenAt : KnownTiles → ℕ → Grid → ℤ → ℤ → Type 0
IsGivenAt given g grid r c = HoldsPoint grid.area r c × IsGiven given g grid r c

-- each supplied tile of this grid has as many numbers as points
abbrev pub HasWholeTiles : KnownTiles → ℕ → Grid → Type 0
HasWholeTiles given g grid =
    (i j : ℕ) (xs : List ℤ) → HasTile grid i j → given g i j ≡ Some xs → length xs ≡ point_count (tile_area grid i j)

abbrev pub AreWhole : Pipeline → KnownTiles → Type 0
AreWhole job given = (g : ℕ) (s : Stage) → slice_get job.stages g ≡ Some s → HasWholeTiles given g (grid_of job s)

-- each supplied tile of this grid has the values of its stage
abbrev pub HasTrueTiles : Pipeline → KnownTiles → ℕ → Grid → Type 0
HasTrueTiles job given g grid =
    (i j : ℕ) (xs : List ℤ) → HasTile grid i j → given g i j ≡ Some xs → xs ≡ raster (tile_area grid i j) (value job g)

abbrev pub AreTrue : Pipeline → KnownTiles → Type 0
AreTrue job given = (g : ℕ) (s : Stage) → slice_get job.stages g ≡ Some s → HasTrueTiles job given g (grid_of job s)

-- ---- whole stages

-- the number that is supplied of stage g at a point
abbrev pub given_at : Pipeline → KnownTiles → ℕ → ℤ → ℤ → ℤ
given_at job given g r c = option_map_or (λ s. given_number job given g s r c) (slice_get job.stages g) (pos 0)

-- each tile of stage g is supplied, with as many numbers as points
pub record IsGivenStage (job : Pipeline) (given : KnownTiles) (g : ℕ) (s : Stage) : Type 0 where
  pub there : slice_get job.stages g ≡ Some s
  pub all : (i j : ℕ) → HasTile (grid_of job s) i j → (xs : List ℤ) × (given g i j ≡ Some xs)
  pub whole : HasWholeTiles given g (grid_of job s)

-- count points of a row, from this column on, lie in supplied tiles of stage g
pub record IsGivenLine (job : Pipeline) (given : KnownTiles) (g : ℕ) (row first : ℤ) (count : ℕ) : Type 0 where
  pub stage : Stage
  pub there : slice_get job.stages g ≡ Some stage
  pub whole : HasWholeTiles given g (grid_of job stage)
  pub points : EachPlace count (λ k. IsGivenAt given g (grid_of job stage) row (first +ℤ pos k))
