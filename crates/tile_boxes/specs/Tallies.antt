-- How the code adds up costs: the tiles of a stage as a list of areas, and over each of them the boxes stage by stage. The
-- contracts of costs.rt cite this; that it equals the cost of Costs is proved.
use Rattle.std.specs.Prelude.{ℕ, Bool, ◌&&◌, not, if◌then◌else◌, List, map, slice_get}
use Rattle.std.specs.List.{sum, flat_map, range_with_len, list_all}
use Rattle.std.specs.Option.{option_map_or}
use Rattle.domains.specs.Area.{point_count}
use Rattle.domains.specs.Span.{Ends}
use Rattle.domains.specs.Tiles.{tile_area, tile_rows, tile_cols}
use Rattle.domains.specs.declared.area.Area.{Area}
use Rattle.domains.specs.declared.grid.Grid.{Grid}
use Rattle.job.specs.Pipeline.{Pipeline, Stage}
use Rattle.job.specs.Reads.{Read, stage_read}
use Rattle.tile_boxes.specs.Schedules.{is_inlined}
use Rattle.tile_boxes.specs.Targets.{Target, target_over, is_function_other_than_target, box}
use Rattle.tile_boxes.specs.Costs.{points, has_scratch, stage_fits}

-- the areas of the tiles in one row, of cols columns, and in all rows
abbrev pub row_areas : Grid → ℕ → ℕ → List Area
row_areas g i cols = map (λ j. tile_area g i j) (range_with_len 0 cols)

-- the columns of the tiles in a row, of which there are cols, and the area of these rows and of some columns
abbrev pub list_tile_columns : Grid → ℕ → List Ends
list_tile_columns g cols = map (λ j. (tile_area g 0 j).cols) (range_with_len 0 cols)

abbrev pub area_of : Ends → Ends → Area
area_of rows cols = record { rows = rows; cols = cols }

abbrev pub list_tile_areas : Grid → List Area
list_tile_areas g = flat_map (λ i. row_areas g i (tile_cols g)) (range_with_len 0 (tile_rows g))

-- the same stage over another region
abbrev pub over : Target → Area → Target
over t a = target_over t.job t.inlining t.stage a

-- the points of a stage's box that lie in scratch memory
abbrev pub count_points_of_inlined_stage_or_zero : Target → ℕ → ℕ
count_points_of_inlined_stage_or_zero t g = if is_inlined t.inlining g && is_function_other_than_target t g then option_map_or point_count (box t g) 0 else 0

-- the points over several regions, and whether each of them fits in scratch memory
abbrev pub points_over : Target → List Area → ℕ
points_over t areas = sum (map (λ a. points (over t a)) areas)

abbrev pub all_have_scratch : Target → List Area → Bool
all_have_scratch t areas = list_all (λ a. has_scratch (over t a)) areas

-- ---- stages

-- a stage over its domain
abbrev pub over_domain : Pipeline → List Bool → ℕ → Stage → Target
over_domain job inlining g s = target_over job inlining g s.domain

-- whether each tile of each of these stages that has a cost fits in scratch memory
abbrev pub all_stages_fit : Pipeline → List Bool → List ℕ → Bool
all_stages_fit job inlining gs = list_all (λ g. stage_fits job inlining g (slice_get job.stages g)) gs

-- whether no stage that is read is inlined
abbrev pub has_only_stored_reads : List Bool → List Read → Bool
has_only_stored_reads inlining reads = list_all (λ x. not (is_inlined inlining (stage_read x))) reads
