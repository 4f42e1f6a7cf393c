-- The plan of a tile: the tiles that it needs, what is computed in which order, and where each inner step lies in scratch memory.
use Rattle.std.specs.Prelude.{ℕ, ◌<◌, ◌≤◌, ◌≡◌, Bool, Some, List, map}
use Rattle.domains.specs.Tiles.{HasTile, tile_area}
use Rattle.domains.specs.declared.area.Area.{Area}
use Rattle.domains.specs.declared.grid.Grid.{Grid}
use Rattle.job.specs.Pipeline.{Pipeline}
use Rattle.job.specs.Answers.{Tile}
use Rattle.identity.specs.declared.key.Key.{Key}
use Rattle.job.specs.Identity.{HasTileAt}
use Rattle.job.specs.Readers.{grid_at}
use Rattle.tile_boxes.specs.Targets.{Target, target_over}
use Rattle.tile_boxes.specs.Costs.{steps, points, scratch, most_scratch}
use Rattle.overlap_tiles.specs.declared.fault.PlanFault.{PlanFault}
use Rattle.overlap_tiles.specs.declared.fault.PlanFault.TheVariants.{NoSuchTile, ScratchTooBig, Memory}
use Rattle.overlap_tiles.specs.Needs.{needs, key_tile, needed_keys}
use Rattle.overlap_tiles.specs.Ranges.{HaveRoom}

-- how contracts see a layout: a plan without identities
pub record TileLayout : Type 0 where
  pub needs : List Tile
  pub steps : List (ℕ × Area)
  pub points : ℕ
  pub ranges : List (ℕ × ℕ)
  pub scratch : ℕ
  pub inlining : List Bool

-- the layout of a target
pub record IsLayout (t : Target) (l : TileLayout) : Type 0 where
  pub needs : l.needs ≡ needs t
  pub steps : l.steps ≡ steps t
  pub points : l.points ≡ points t
  pub ranges : HaveRoom t l.ranges l.scratch
  pub inlining : l.inlining ≡ t.inlining

-- and its inner steps have no more points than scratch memory may have
pub record IsFittingLayout (t : Target) (l : TileLayout) : Type 0 where
  pub layout : IsLayout t l
  pub fits : scratch t ≤ most_scratch

-- how contracts see a plan
pub record Plan : Type 0 where
  pub needs : List Key
  pub steps : List (ℕ × Area)
  pub points : ℕ
  pub ranges : List (ℕ × ℕ)
  pub scratch : ℕ
  pub inlining : List Bool

-- a layout with the keys of what it needs
abbrev pub with_keys : List Key → TileLayout → Plan
with_keys keys l =
    record { needs = keys; steps = l.steps; points = l.points; ranges = l.ranges; scratch = l.scratch; inlining = l.inlining }

-- the plan of a target, by the identity of its program
pub record IsPlan (program : List ℕ) (t : Target) (p : Plan) : Type 0 where
  pub needs : p.needs ≡ needed_keys program t
  pub steps : p.steps ≡ steps t
  pub points : p.points ≡ points t
  pub ranges : HaveRoom t p.ranges p.scratch
  pub inlining : p.inlining ≡ t.inlining

pub record IsFittingPlan (program : List ℕ) (t : Target) (p : Plan) : Type 0 where
  pub plan : IsPlan program t p
  pub fits : scratch t ≤ most_scratch

-- a plan without its identities
abbrev pub layout_of : Plan → TileLayout
layout_of p =
    record
    { needs = map key_tile p.needs; steps = p.steps; points = p.points; ranges = p.ranges; scratch = p.scratch; inlining = p.inlining }

-- why a target has neither a layout nor a plan. Memory may be refused for any
abbrev pub IsTargetFault : Target → PlanFault → Type 0
IsTargetFault t NoSuchTile = ⊥
IsTargetFault t ScratchTooBig = most_scratch < scratch t
IsTargetFault t Memory = Unit {0}

-- ---- tiles

-- the tile in row i and column j of the grid of stage g, a function or an accumulator, has this area
pub record IsTileAt (job : Pipeline) (g i j : ℕ) (area : Area) : Type 0 where
  pub grid : Grid
  pub there : grid_at job g ≡ Some grid
  pub tile : HasTile grid i j
  pub is : area ≡ tile_area grid i j

-- the layout is that of this tile
pub record IsTileLayout (job : Pipeline) (inlining : List Bool) (g i j : ℕ) (l : TileLayout) : Type 0 where
  pub area : Area
  pub tile : IsTileAt job g i j area
  pub layout : IsFittingLayout (target_over job inlining g area) l

-- the plan is that of this tile
pub record IsTilePlan (program : List ℕ) (job : Pipeline) (inlining : List Bool) (g i j : ℕ) (p : Plan) : Type 0 where
  pub area : Area
  pub tile : IsTileAt job g i j area
  pub plan : IsFittingPlan program (target_over job inlining g area) p

-- there is this tile, and neither a layout nor a plan of it
pub record IsTileFault (job : Pipeline) (inlining : List Bool) (g i j : ℕ) (fault : PlanFault) : Type 0 where
  pub area : Area
  pub tile : IsTileAt job g i j area
  pub reason : IsTargetFault (target_over job inlining g area) fault

-- why there is neither a layout nor a plan of this tile
abbrev pub IsPlanFault : Pipeline → List Bool → ℕ → ℕ → ℕ → PlanFault → Type 0
IsPlanFault job inlining g i j NoSuchTile = ¬ (HasTileAt job g i j)
IsPlanFault job inlining g i j ScratchTooBig = IsTileFault job inlining g i j ScratchTooBig
IsPlanFault job inlining g i j Memory = IsTileFault job inlining g i j Memory
