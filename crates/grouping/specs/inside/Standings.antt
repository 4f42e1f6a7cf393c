-- What the code keeps while the greedy rule runs: of a stored stage its cost and what each of its tiles has in scratch memory; of
-- an inlined function its box in each tile of its group.
use Rattle.std.specs.Prelude.{ℕ, ◌<◌, ◌≤◌, ◌≡◌, Bool, true, false, Option, Some, None, List, [], map, length, slice_get}
use Rattle.std.specs.Option.{option_map_or}
use Rattle.domains.specs.declared.area.Area.{Area}
use Rattle.job.specs.Pipeline.{Pipeline, rank_of}
use Rattle.job.specs.Readers.{grid_at}
use Rattle.tile_boxes.specs.Schedules.{is_inlined}
use Rattle.tile_boxes.specs.Targets.{box, target_over}
use Rattle.tile_boxes.specs.Costs.{scratch, stage_fits}
use Rattle.tile_boxes.specs.Tallies.{list_tile_areas}
use Rattle.grouping.specs.inside.Crossed.{boxes_in}
use Rattle.grouping.specs.Greedy.{Grouping, group, cost_or_zero}
use Rattle.grouping.specs.declared.standing.StageStatus.{StageStatus}
use Rattle.grouping.specs.declared.standing.StageStatus.TheVariants.{Stored, Inlined}

-- ---- tiles

-- the areas of a stage's tiles; planes have none
abbrev pub areas_at : Pipeline → ℕ → List Area
areas_at job h = option_map_or list_tile_areas (grid_at job h) []

-- what each tile of stage h has in scratch memory
abbrev pub scratch_by_tile : Pipeline → List Bool → ℕ → List ℕ
scratch_by_tile job inlining h = map (λ a. scratch (target_over job inlining h a)) (areas_at job h)

-- the box of stage g in each tile of stage h
abbrev pub boxes_by_tile : Pipeline → List Bool → ℕ → ℕ → List (Option Area)
boxes_by_tile job inlining h g = map (λ a. box (target_over job inlining h a) g) (areas_at job h)

-- ---- standings

-- a stored stage is its own group; n is what its tiles cost, and tiles is what each of them has in scratch memory, where it fits
pub record StandsStored (job : Pipeline) (c : Grouping) (g n : ℕ) (tiles : List ℕ) : Type 0 where
  pub stored : is_inlined c.inlining g ≡ false
  pub own : group c g ≡ g
  pub costs : n ≡ cost_or_zero job c.inlining g
  pub in_scratch : tiles ≡ scratch_by_tile job c.inlining g
  pub room : stage_fits job c.inlining g (slice_get job.stages g) ≡ true

-- the group of an inlined function is a stored stage of greater rank; tiles are the function's boxes in the group's tiles. Over
-- other stored stages it has no box
pub record StandsInlined (job : Pipeline) (c : Grouping) (g : ℕ) (tiles : List (Option Area)) : Type 0 where
  pub inlined : is_inlined c.inlining g ≡ true
  pub at_group : is_inlined c.inlining (group c g) ≡ false
  pub before : rank_of job.stages g < rank_of job.stages (group c g)
  pub boxes : tiles ≡ boxes_by_tile job c.inlining (group c g) g
  pub elsewhere : (h : ℕ) (a : Area) → is_inlined c.inlining h ≡ false → (h ≡ group c g → ⊥)
      → box (target_over job c.inlining h a) g ≡ None

-- the status of a stage is the one that is kept of it
abbrev pub Stands : Pipeline → Grouping → ℕ → StageStatus → Type 0
Stands job c g (Stored points tiles) = StandsStored job c g points tiles.items
Stands job c g (Inlined tiles) = StandsInlined job c g (boxes_in tiles)

-- each stage has the status that is kept of it
pub record AllStand (job : Pipeline) (c : Grouping) (standings : List StageStatus) : Type 0 where
  pub inlining : length c.inlining ≡ length job.stages
  pub groups : length c.groups ≡ length job.stages
  pub all : length standings ≡ length job.stages
  pub each : (g : ℕ) (s : StageStatus) → slice_get standings g ≡ Some s → Stands job c g s

-- no function of lesser rank than stage g is inlined
abbrev pub NoneInlinedBelow : Pipeline → List Bool → ℕ → Type 0
NoneInlinedBelow job inlining g = (x : ℕ) → is_inlined inlining x ≡ true → rank_of job.stages g ≤ rank_of job.stages x
