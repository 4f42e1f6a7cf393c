-- Which tiles of stored functions a target needs.
use Rattle.std.specs.Prelude.{ℕ, ◌<◌, ◌≡◌, ◌⊎◌, Bool, true, ◌&&◌, not, if◌then◌else◌, Option, Some, None, List, [], map, length}
use Rattle.std.specs.declared.cmp.Ordering.TheVariants.{Less}
use Rattle.std.specs.List.{flat_map, range_with_len}
use Rattle.domains.specs.Tiles.{MeetsTile, cover}
use Rattle.domains.specs.declared.area.Area.{Area}
use Rattle.domains.specs.declared.grid.Grid.{Grid}
use Rattle.identity.specs.declared.key.Key.{Key}
use Rattle.job.specs.Pipeline.{Pipeline}
use Rattle.job.specs.Identity.{input_id}
use Rattle.identity.specs.Keys.{key_cmp}
use Rattle.job.specs.Answers.{Tile}
use Rattle.job.specs.Readers.{grid_at}
use Rattle.tile_boxes.specs.Schedules.{is_inlined}
use Rattle.tile_boxes.specs.Targets.{Target, is_function_other_than_target, box}

-- whether stage g is a stored function other than the target
abbrev pub is_stored : Target → ℕ → Bool
is_stored t g = is_function_other_than_target t g && not (is_inlined t.inlining g)

-- ---- the list

abbrev pub tile_of_stage : ℕ → ℕ × ℕ → Tile
tile_of_stage g place = record { stage = g; row = place.0; col = place.1 }

-- the tiles of stage g that meet an area, row by row
abbrev pub tiles_over : ℕ → Option Grid → Option Area → List Tile
tiles_over g None area = []
tiles_over g (Some grid) None = []
tiles_over g (Some grid) (Some area) = map (tile_of_stage g) (cover grid area)

abbrev pub needs_of : Target → ℕ → List Tile
needs_of t g = if is_stored t g then tiles_over g (grid_at t.job g) (box t g) else []

-- the tiles of stored functions that meet their boxes, stage by stage
abbrev pub needs : Target → List Tile
needs t = flat_map (needs_of t) (range_with_len 0 (length t.job.stages))

-- the key of a tile, by the identity of the program
abbrev pub key_of : List ℕ → Pipeline → Tile → Key
key_of program job n = record { program = program; input = input_id job; stage = n.stage; row = n.row; col = n.col }

-- the tile of a key
abbrev pub key_tile : Key → Tile
key_tile k = record { stage = k.stage; row = k.row; col = k.col }

-- in the order of keys, by programs first
abbrev pub IsKeyBefore : Key → Key → Type 0
IsKeyBefore k l = key_cmp k l ≡ Less

-- the keys of what a target needs
abbrev pub needed_keys : List ℕ → Target → List Key
needed_keys program t = map (key_of program t.job) (needs t)

-- ---- what is in it

-- the tile has a point of the box of a stored function
pub record IsNeeded (t : Target) (n : Tile) : Type 0 where
  pub grid : Grid
  pub there : grid_at t.job n.stage ≡ Some grid
  pub stored : is_stored t n.stage ≡ true
  pub area : Area
  pub boxed : box t n.stage ≡ Some area
  pub meets : MeetsTile grid area n.row n.col

-- tiles are in the order of their stages, then of their rows, then of their columns
abbrev pub IsTileBefore : Tile → Tile → Type 0
IsTileBefore m n =
    (m.stage < n.stage) ⊎ ((m.stage ≡ n.stage) × ((m.row < n.row) ⊎ ((m.row ≡ n.row) × (m.col < n.col))))
