-- The tiles that a job computes by a schedule, those that its answer consists of, and those that exceed scratch memory.
use Rattle.std.specs.Prelude.{ℕ, ◌<◌, ◌≡◌, ◌⊎◌, Bool, true, false, ◌&&◌, ◌||◌, not, nat_lt, Option, List, map, filter, find}
use Rattle.std.specs.List.{flat_map}
use Rattle.std.specs.Option.{option_map_or}
use Rattle.domains.specs.Tiles.{tile_rows, tile_cols, tile_area}
use Rattle.domains.specs.declared.grid.Grid.{Grid}
use Rattle.identity.specs.declared.key.Key.{Key}
use Rattle.job.specs.Answers.{Tile, tiles, wanted}
pub use Rattle.job.specs.Answers.{is_accumulator_at}
use Rattle.job.specs.Identity.{HasTileAt}
use Rattle.job.specs.Pipeline.{Pipeline}
use Rattle.job.specs.Readers.{grid_at}
use Rattle.tile_boxes.specs.Costs.{has_scratch}
use Rattle.tile_boxes.specs.Order.{ComesBefore, order_stages_by_rank}
use Rattle.tile_boxes.specs.Schedules.{is_inlined, is_function_stage}
use Rattle.tile_boxes.specs.Targets.{target_over}
use Rattle.overlap_tiles.specs.Needs.{key_of, key_tile}

-- ---- the stages whose tiles are computed

-- a function that is not inlined
abbrev pub is_stored_function : Pipeline → List Bool → ℕ → Bool
is_stored_function job inlining g = is_function_stage job g && not (is_inlined inlining g)

abbrev pub is_stored_or_accumulator_work_stage : Pipeline → List Bool → ℕ → Bool
is_stored_or_accumulator_work_stage job inlining g = is_stored_function job inlining g || is_accumulator_at job g

-- ---- their tiles

-- the tiles of the stages that are wanted: stage by stage in dependence order, and row by row
abbrev pub tiles_in_order : Pipeline → (ℕ → Bool) → List Tile
tiles_in_order job wants = flat_map (tiles job) (filter wants (order_stages_by_rank job.stages))

-- those of stored functions and accumulators
abbrev pub work_tiles : Pipeline → List Bool → List Tile
work_tiles job inlining = tiles_in_order job (is_stored_or_accumulator_work_stage job inlining)

-- their keys, by the identity of the program
abbrev pub work_keys : List ℕ → Pipeline → List Bool → List Key
work_keys program job inlining = map (key_of program job) (work_tiles job inlining)

-- the keys of the tiles of outputs and accumulators
abbrev pub wanted_keys : List ℕ → Pipeline → List Key
wanted_keys program job = map (key_of program job) (wanted job)

-- ---- what is in those lists, and in which order

-- there is this tile, and it is one of a stored function or of an accumulator
pub record IsWork (job : Pipeline) (inlining : List Bool) (t : Tile) : Type 0 where
  pub tile : HasTileAt job t.stage t.row t.col
  pub made : is_stored_or_accumulator_work_stage job inlining t.stage ≡ true

-- in dependence order of stages, then of rows, then of columns
abbrev pub IsWorkedBefore : Pipeline → Tile → Tile → Type 0
IsWorkedBefore job m n =
    ComesBefore job.stages m.stage n.stage
    ⊎ ((m.stage ≡ n.stage) × ((m.row < n.row) ⊎ ((m.row ≡ n.row) × (m.col < n.col))))

-- ---- the capacity of scratch memory

abbrev pub has_tile : Grid → Tile → Bool
has_tile grid t = nat_lt t.row (tile_rows grid) && nat_lt t.col (tile_cols grid)

-- whether a grid has the tile, and what is inlined into it exceeds scratch memory
abbrev pub lacks_room_in : Pipeline → List Bool → Tile → Grid → Bool
lacks_room_in job inlining t grid =
    has_tile grid t && not (has_scratch (target_over job inlining t.stage (tile_area grid t.row t.col)))

abbrev pub is_tile_over_scratch_limit : Pipeline → List Bool → Tile → Bool
is_tile_over_scratch_limit job inlining t = option_map_or (lacks_room_in job inlining t) (grid_at job t.stage) false

-- the first of these keys whose tile exceeds scratch memory
abbrev pub find_key_over_scratch_limit : Pipeline → List Bool → List Key → Option Key
find_key_over_scratch_limit job inlining keys = find (λ k. is_tile_over_scratch_limit job inlining (key_tile k)) keys
