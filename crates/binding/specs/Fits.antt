-- What the picture and the sizes of stages must be for a program.
use Rattle.std.specs.Prelude.{ℕ, ◌*◌, ◌<◌, ◌≤◌, ◌≡◌, pos, if◌then◌else◌, Some, List, length, slice_get, slice_index, All}
use Rattle.std.specs.Option.{ForSome}
use Rattle.domains.specs.Tiles.{tile_rows, tile_cols}
use Rattle.netpbm.specs.Image.{Image as Picture}
use Rattle.pipe_tree.specs.declared.tree.Image.{Image}
use Rattle.pipe_bounds.specs.declared.params.Setting.{Setting}
use Rattle.pipe_bounds.specs.Settings.{affine_value}
use Rattle.job.specs.Pipeline.{Stage, Output, Pipeline}
use Rattle.job.specs.Answers.{grid_of, has_tiles, height_of, width_of}
use Rattle.binding.specs.Binding.{names_in}

-- the picture has as many planes as the program names
abbrev pub PlanesFit : Image → Picture → Type 0
PlanesFit i picture = length (names_in i.names) ≡ length picture.planes

-- the sides of the picture are the extents of the planes
abbrev pub ExtentsFit : List Setting → Image → Picture → Type 0
ExtentsFit settings i picture = (affine_value settings i.rows ≡ pos picture.rows) × (affine_value settings i.columns ≡ pos picture.cols)

abbrev pub HasSides : Pipeline → ℕ → ℕ → ℕ → Type 0
HasSides job height width g = (height_of job g ≡ height) × (width_of job g ≡ width)

-- the functions of the output have the sides of the first, and these are sides that a picture may have
pub record IsShaped (job : Pipeline) (o : Output) : Type 0 where
  pub height : height_of job (slice_index o.stages 0) ≤ 4096
  pub width : width_of job (slice_index o.stages 0) ≤ 4096
  pub equal_sides : All (HasSides job (height_of job (slice_index o.stages 0)) (width_of job (slice_index o.stages 0))) o.stages

abbrev pub ShapesFit : Pipeline → Type 0
ShapesFit job = ForSome job.output (IsShaped job)

abbrev pub tile_count : Pipeline → Stage → ℕ
tile_count job s = if has_tiles s.body then tile_rows (grid_of job s) * tile_cols (grid_of job s) else 0

-- each stage below this number has at most 65,536 tiles
abbrev pub HaveFewTiles : Pipeline → ℕ → Type 0
HaveFewTiles job n = (k : ℕ) (s : Stage) → k < n → slice_get job.stages k ≡ Some s → tile_count job s ≤ 65536

abbrev pub TilesFit : Pipeline → Type 0
TilesFit job = HaveFewTiles job (length job.stages)
