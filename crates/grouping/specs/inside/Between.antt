-- How the code avoids walks. A tile has its rows in common with one tile, and its columns with another. If the cases of all
-- readers count in all three, the box of a function there has the rows of its box in the one and the columns of its box in the
-- other.
use Rattle.std.specs.Prelude.{ℕ, ◌+◌, ◌*◌, ◌<◌, ◌≡◌, ◌==◌, Bool, true, is_some, if◌then◌else◌, Option, Some, None, List, length, slice_get, All}
use Rattle.std.specs.List.{list_all}
use Rattle.domains.specs.Span.{Ends}
use Rattle.domains.specs.Tiles.{HasTile, tile_cols, tile_area}
use Rattle.domains.specs.declared.area.Area.{Area}
use Rattle.domains.specs.declared.grid.Grid.{Grid}
use Rattle.job.specs.Pipeline.{JobCase, Body, plane, function, accumulator, Stage, Pipeline}
use Rattle.tile_boxes.specs.Demands.{meet_of_areas}
use Rattle.tile_boxes.specs.Targets.{box, target_over}
use Rattle.grouping.specs.inside.Standings.{areas_at}
use Rattle.grouping.specs.inside.Trials.{find_kept_box}
use Rattle.grouping.specs.declared.standing.StageStatus.{StageStatus}
use Rattle.grouping.specs.declared.greedy.Grouper.{Grouper}
use Rattle.grouping.specs.declared.trial.InlineCandidate.{InlineCandidate}
use Rattle.grouping.specs.declared.between.NumberedTile.{NumberedTile}

-- ---- cases

-- a region meets the box, if there is one
abbrev pub meets_case_box : Area → Option Area → Bool
meets_case_box region None = true
meets_case_box region (Some box) = is_some (meet_of_areas box region)

-- a region meets the box of each case that has one
abbrev pub meets_all_case_boxes : Body → Area → Bool
meets_all_case_boxes (plane n) region = true
meets_all_case_boxes (function cases otherwise) region = list_all (λ (p : JobCase). meets_case_box region p.box) cases
meets_all_case_boxes (accumulator fold bins value bin) region = true

-- the stage exists and has a region, which meets all of its cases
abbrev pub IsWhole : Option Stage → Option Area → Type 0
IsWhole None o = ⊥
IsWhole (Some s) None = ⊥
IsWhole (Some s) (Some region) = meets_all_case_boxes s.body region ≡ true

-- ---- regions

-- the region of stage r in a tile of stage h, as it is kept
abbrev pub find_kept_region : List StageStatus → ℕ → NumberedTile → ℕ → Option Area
find_kept_region standings h spot r = if r == h then Some spot.tile else find_kept_box (slice_get standings r) spot.place

-- a region has its rows in common with one, and its columns with another
abbrev pub IsBetween : Option Area → Option Area → Option Area → Type 0
IsBetween None left top = ⊥
IsBetween (Some a) None top = ⊥
IsBetween (Some a) (Some left) None = ⊥
IsBetween (Some a) (Some left) (Some top) = (a.rows ≡ left.rows) × (a.cols ≡ top.cols)

-- ---- tiles

-- the tile of stage h with this number has this area
abbrev pub IsNumberedTile : Pipeline → ℕ → NumberedTile → Type 0
IsNumberedTile job h spot = slice_get (areas_at job h) spot.place ≡ Some spot.tile

-- the function has this box in the tile, and all of its readers are whole there
pub record HasWhole (job : Pipeline) (c : Grouper) (k : InlineCandidate) (spot : NumberedTile) (area : Area) : Type 0 where
  pub is : box (target_over job c.inlining k.group spot.tile) k.number ≡ Some area
  pub readers : All (λ r. IsWhole (slice_get job.stages r) (find_kept_region c.standings.items k.group spot r)) k.readers.items

-- what is known of tiles: if a box is kept for a tile, the function has it there, and all of its readers are whole there
abbrev pub AreWhole : Pipeline → Grouper → InlineCandidate → List (Option Area) → Type 0
AreWhole job c k wholes =
    (spot : NumberedTile) (area : Area) → IsNumberedTile job k.group spot → slice_get wholes spot.place ≡ Some (Some area) → HasWhole job c k spot area

-- ---- rows and columns of tiles

-- the tile in row i and column j
abbrev pub find_group_tile_by_row_and_column : Grid → ℕ → ℕ → NumberedTile
find_group_tile_by_row_and_column g i j = record { place = i * tile_cols g + j; tile = tile_area g i j }

-- the region of stage r is separable. In each tile its rows are those of its region in the first tile of the row, and its columns
-- those in the first tile of the column
abbrev pub LiesAcross : List StageStatus → ℕ → Grid → ℕ → Type 0
LiesAcross standings h g r =
    (i j : ℕ) → HasTile g i j → IsBetween (find_kept_region standings h (find_group_tile_by_row_and_column g i j) r) (find_kept_region standings h (find_group_tile_by_row_and_column g i 0) r)
    (find_kept_region standings h (find_group_tile_by_row_and_column g 0 j) r)

-- in each of these n tiles the function has a box and all of its readers are whole; sides are the rows, or the columns, of the
-- boxes
pub record AreSides (job : Pipeline) (c : Grouper) (k : InlineCandidate) (spot : ℕ → NumberedTile) (side : Area → Ends) (n : ℕ) (sides : List Ends)
    : Type 0 where
  pub count : length sides ≡ n
  pub each : (i : ℕ) → i < n → (area : Area) × HasWhole job c k (spot i) area × (slice_get sides i ≡ Some (side area))
