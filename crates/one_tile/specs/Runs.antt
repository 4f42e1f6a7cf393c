-- The result of a tile from what is supplied.
use Rattle.std.specs.Prelude.{ℕ, ℤ, ◌≡◌, Bool, true, Option, Some, None, List, find, Contains}
use Rattle.std.specs.Option.{is_none}
use Rattle.domains.specs.declared.area.Area.{Area}
use Rattle.identity.specs.declared.key.Key.{Key}
use Rattle.job.specs.Answers.{Tile}
use Rattle.job.specs.Pipeline.{Pipeline}
use Rattle.job.specs.Values.{value}
use Rattle.tile_boxes.specs.Schedules.{is_function_stage}
use Rattle.overlap_tiles.specs.Plans.{Plan, TileLayout, IsTileAt, IsTilePlan, IsTileLayout}
use Rattle.tile_eval.specs.Raster.{raster}
use Rattle.one_tile.specs.declared.tile_fault.EvalFault.{EvalFault}
use Rattle.one_tile.specs.declared.tile_fault.EvalFault.TheVariants.{Missing, Memory}
use Rattle.tile_sources.specs.KnownTiles.{KnownTiles}
use Rattle.one_tile.specs.Local.{local_value}

abbrev pub is_missing : KnownTiles → Key → Bool
is_missing given key = is_none (given key.stage key.row key.col)

-- the first of these keys whose tile is not supplied. The needs of a plan are in the order of keys, so that it is the least
abbrev pub first_missing : KnownTiles → List Key → Option Key
first_missing given needs = find (is_missing given) needs

-- the numbers are the local values of stage g on its tile in row i and column j, row by row
abbrev pub AreLocalOn : Pipeline → List Bool → KnownTiles → ℕ → ℕ → ℕ → List ℤ → Type 0
AreLocalOn job inlining given g i j numbers =
    (area : Area) → IsTileAt job g i j area → numbers ≡ raster area (local_value job inlining given g)

-- the numbers are the values of the stage there
abbrev pub AreValuesOn : Pipeline → ℕ → ℕ → ℕ → List ℤ → Type 0
AreValuesOn job g i j numbers = (area : Area) → IsTileAt job g i j area → numbers ≡ raster area (value job g)

-- the plan is that of a tile of a function
pub record IsFunctionPlan (program : List ℕ) (job : Pipeline) (p : Plan) : Type 0 where
  pub inlining : List Bool
  pub stage : ℕ
  pub row : ℕ
  pub col : ℕ
  pub plan : IsTilePlan program job inlining stage row col p
  pub function : is_function_stage job stage ≡ true

-- why a tile with these needs is not computed. Memory may be refused wherever no need is missing
abbrev pub IsEvalFault : KnownTiles → List Key → EvalFault → Type 0
IsEvalFault given needs (Missing key) = first_missing given needs ≡ Some key
IsEvalFault given needs Memory = first_missing given needs ≡ None

-- the layout is that of a tile
pub record IsSomeLayout (job : Pipeline) (l : TileLayout) : Type 0 where
  pub inlining : List Bool
  pub stage : ℕ
  pub row : ℕ
  pub col : ℕ
  pub layout : IsTileLayout job inlining stage row col l

-- each of these tiles is supplied
abbrev pub NeedsGiven : KnownTiles → List Tile → Type 0
NeedsGiven given needs = (n : Tile) → Contains needs n → (xs : List ℤ) × (given n.stage n.row n.col ≡ Some xs)
