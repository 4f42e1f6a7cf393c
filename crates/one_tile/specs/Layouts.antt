-- Layouts of tiles of functions.
use Rattle.std.specs.Prelude.{ℕ, ◌≡◌, Bool, true, List}
use Rattle.job.specs.Pipeline.{Pipeline}
use Rattle.tile_boxes.specs.Schedules.{is_function_stage}
use Rattle.overlap_tiles.specs.Plans.{TileLayout, IsTileLayout}

-- the layout is that of a tile of a function
pub record IsFunctionLayout (job : Pipeline) (l : TileLayout) : Type 0 where
  pub inlining : List Bool
  pub stage : ℕ
  pub row : ℕ
  pub col : ℕ
  pub layout : IsTileLayout job inlining stage row col l
  pub function : is_function_stage job stage ≡ true
