-- How the code tries a function: its boxes in the tiles of its readers' group, and what they add to cost and scratch memory.
use Rattle.std.specs.Prelude.{ℕ, ◌+◌, ◌<◌, ◌≡◌, Bool, true, false, Option, Some, None, List, map, length, take, slice_get, slice_index_or}
use Rattle.std.specs.List.{sum}
use Rattle.std.specs.Option.{option_map_or}
use Rattle.domains.specs.Area.{point_count}
use Rattle.domains.specs.Span.{Ends}
use Rattle.domains.specs.declared.area.Area.{Area}
use Rattle.job.specs.Kept.{pipeline_in}
use Rattle.job.specs.Pipeline.{Pipeline}
use Rattle.tile_boxes.specs.Schedules.{is_inlined, is_function_stage}
use Rattle.tile_boxes.specs.Targets.{IsTarget, box, target_over}
use Rattle.tile_boxes.specs.Costs.{scratch}
use Rattle.grouping.specs.Greedy.{Grouping, readers, find_common_group}
use Rattle.grouping.specs.inside.Standings.{AllStand, areas_at, boxes_by_tile, NoneInlinedBelow}
use Rattle.grouping.specs.inside.Crossed.{boxes_in}
use Rattle.tile_boxes.specs.Tallies.{area_of}
use Rattle.grouping.specs.declared.trial.TrialPoints.{TrialPoints}
use Rattle.tile_boxes.specs.Walks.{target_of}
use Rattle.grouping.specs.declared.standing.StageStatus.{StageStatus}
use Rattle.grouping.specs.declared.standing.StageStatus.TheVariants.{Stored, Inlined}
use Rattle.grouping.specs.declared.greedy.Grouper.{Grouper}
use Rattle.tile_boxes.specs.declared.target.BoxWalk.{BoxWalk}
use Rattle.grouping.specs.declared.trial.InlineCandidate.{InlineCandidate}
use Rattle.grouping.specs.declared.trial.InlineTrial.{InlineTrial}

-- how contracts see the grouping so far
abbrev pub grouping_of : Grouper → Grouping
grouping_of c = record { inlining = c.inlining; groups = c.groups.items }

-- the points of a box, if there is one
abbrev pub count_box_points : Option Area → ℕ
count_box_points o = option_map_or point_count o 0

-- the cost that is kept for a stored stage
abbrev pub find_kept_cost_of_stored_stage : Option StageStatus → ℕ
find_kept_cost_of_stored_stage None = 0
find_kept_cost_of_stored_stage (Some (Stored points tiles)) = points
find_kept_cost_of_stored_stage (Some (Inlined tiles)) = 0

-- the box that is kept for an inlined function in a tile of its group
abbrev pub find_kept_box : Option StageStatus → ℕ → Option Area
find_kept_box None place = None
find_kept_box (Some (Stored points tiles)) place = None
find_kept_box (Some (Inlined tiles)) place = slice_index_or (boxes_in tiles) place None

-- the points in scratch memory that are kept for a tile of a stored stage
abbrev pub find_kept_scratch : Option StageStatus → ℕ → ℕ
find_kept_scratch None place = 0
find_kept_scratch (Some (Stored points tiles)) place = slice_index_or tiles.items place 0
find_kept_scratch (Some (Inlined tiles)) place = 0

-- a stored function, before any of lesser rank is inlined, with its readers and their one group
pub record IsCandidate (job : Pipeline) (c : Grouping) (k : InlineCandidate) : Type 0 where
  pub there : k.number < length job.stages
  pub function : is_function_stage job k.number ≡ true
  pub stored : is_inlined c.inlining k.number ≡ false
  pub behind : NoneInlinedBelow job c.inlining k.number
  pub read : k.readers.items ≡ readers job k.number
  pub shared : find_common_group c k.readers.items ≡ Some k.group

-- a walk over the tile of this number of a group, where each stage has the status that is kept of it
pub record IsOverTile (c : Grouper) (place : ℕ) (w : BoxWalk) : Type 0 where
  pub target : IsTarget (target_of w)
  pub inlining : w.schedule.now ≡ c.inlining
  pub stand : AllStand (pipeline_in w.job.now) (grouping_of c) c.standings.items
  pub tile : slice_get (areas_at (pipeline_in w.job.now) w.stage) place ≡ Some w.region

-- what each tile of stage h has in scratch memory with the boxes of stage g
abbrev pub scratch_with : Pipeline → List Bool → ℕ → ℕ → List ℕ
scratch_with job inlining h g =
    map (λ a. scratch (target_over job inlining h a) + count_box_points (box (target_over job inlining h a) g)) (areas_at job h)

-- the boxes of stage g in the tiles of stage h, their points, and what each tile has in scratch memory with them
pub record IsTrialOf (job : Pipeline) (inlining : List Bool) (h g : ℕ) (t : InlineTrial) : Type 0 where
  pub boxes : boxes_in t.boxes ≡ boxes_by_tile job inlining h g
  pub added : t.added ≡ sum (map count_box_points (boxes_by_tile job inlining h g))
  pub in_scratch : t.scratch.items ≡ scratch_with job inlining h g

-- the same of the first n tiles
pub record AreTaken (job : Pipeline) (inlining : List Bool) (h g n : ℕ) (t : TrialPoints) : Type 0 where
  pub added : t.added ≡ sum (map count_box_points (take n (boxes_by_tile job inlining h g)))
  pub in_scratch : t.scratch.items ≡ take n (scratch_with job inlining h g)

-- from tile number n on the boxes have these rows, and one after another these columns
abbrev pub IsRowOfBoxes : Pipeline → List Bool → ℕ → ℕ → ℕ → Ends → List Ends → Type 0
IsRowOfBoxes job inlining h g n rows cols =
    (j : ℕ) (c : Ends) → slice_get cols j ≡ Some c
    → (n + j < length (areas_at job h)) × (slice_index_or (boxes_by_tile job inlining h g) (n + j) None ≡ Some (area_of rows c))
