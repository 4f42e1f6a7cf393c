-- How many points a tile computes.
use Rattle.std.specs.Prelude.{ℕ, ◌≤◌, ◌≡◌, nat_le, Bool, true, ◌&&◌, not, if◌then◌else◌, Option, Some, None, List, [], ◌∷◌, ◌++◌, map}
use Rattle.std.specs.Prelude.{filter, length, slice_get, All}
use Rattle.std.specs.List.{sum, list_all, range_with_len}
use Rattle.domains.specs.Area.{point_count}
use Rattle.domains.specs.Tiles.{tile_area, tiles_of}
use Rattle.domains.specs.declared.area.Area.{Area}
use Rattle.job.specs.Pipeline.{Stage, Pipeline}
use Rattle.job.specs.Answers.{grid_of, has_tiles}
use Rattle.tile_boxes.specs.Schedules.{is_inlined}
use Rattle.tile_boxes.specs.Targets.{Target, target_over, boxes}

abbrev pub points_in : List (ℕ × Area) → ℕ
points_in steps = sum (map (λ s. point_count s.1) steps)

-- the inlined functions with their boxes, in dependence order
abbrev pub inner_steps : Target → List (ℕ × Area)
inner_steps t = filter (λ s. is_inlined t.inlining s.0) (boxes t)

-- what is computed for a target: those, then the target itself
abbrev pub steps : Target → List (ℕ × Area)
steps t = inner_steps t ++ (t.stage, t.region) ∷ []

-- the points of the boxes that lie in scratch memory, and how many there may be
abbrev pub scratch : Target → ℕ
scratch t = points_in (inner_steps t)

abbrev pub most_scratch : ℕ
most_scratch = 67108864

-- the points of all that is computed for a target
abbrev pub points : Target → ℕ
points t = points_in (steps t)

-- ---- stages

-- a stage over each of its tiles, row by row
abbrev pub tile_targets : Pipeline → List Bool → ℕ → Stage → List Target
tile_targets job inlining g s =
    map (λ tile. target_over job inlining g (tile_area (grid_of job s) tile.0 tile.1)) (tiles_of (grid_of job s))

-- the points of a stage's tiles together
abbrev pub cost_of : Pipeline → List Bool → ℕ → Stage → ℕ
cost_of job inlining g s = sum (map points (tile_targets job inlining g s))

-- functions that are stored and accumulators have a cost; planes and inlined functions have none
abbrev pub stage_cost : Pipeline → List Bool → ℕ → Option Stage → Option ℕ
stage_cost job inlining g None = None
stage_cost job inlining g (Some s) = if has_tiles s.body && not (is_inlined inlining g) then Some (cost_of job inlining g s) else None

abbrev pub cost : Pipeline → List Bool → ℕ → Option ℕ
cost job inlining g = stage_cost job inlining g (slice_get job.stages g)

-- ---- capacity of scratch memory

-- what is inlined in a target fits in scratch memory
abbrev pub has_scratch : Target → Bool
has_scratch t = nat_le (scratch t) most_scratch

-- so it does in each tile of a stage that has a cost
abbrev pub stage_fits : Pipeline → List Bool → ℕ → Option Stage → Bool
stage_fits job inlining g None = true
stage_fits job inlining g (Some s) =
    if has_tiles s.body && not (is_inlined inlining g) then list_all has_scratch (tile_targets job inlining g s) else true

-- no tile of the stage has more in scratch memory than there may be
abbrev pub FitsScratch : Pipeline → List Bool → ℕ → Stage → Type 0
FitsScratch job inlining g s = All (λ t. scratch t ≤ most_scratch) (tile_targets job inlining g s)

-- ---- all stages

-- what each stage of the job costs
abbrev pub survey_stage_costs : Pipeline → List Bool → List (Option ℕ)
survey_stage_costs job inlining = map (cost job inlining) (range_with_len 0 (length job.stages))

-- no tile of a stage that has a cost has more in scratch memory than there may be
abbrev pub AllFitScratch : Pipeline → List Bool → Type 0
AllFitScratch job inlining =
    (g : ℕ) (s : Stage) → slice_get job.stages g ≡ Some s → (has_tiles s.body && not (is_inlined inlining g)) ≡ true
    → FitsScratch job inlining g s
