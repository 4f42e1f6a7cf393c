-- Each tile of a stage is a target.
use Rattle.std.proofs.Common.{ℕ, ◌≡◌, Bool, true, false, Option, Some, None, List, refl, subst}
use Rattle.std.specs.Prelude.{slice_get, if◌then◌else◌}
use Rattle.domains.specs.Tiles.{IsGrid, HasTile, tile_area}
use Rattle.domains.specs.declared.grid.Grid.{Grid}
use Rattle.domains.proofs.Covers.{tile_fits, tile_inside}
use Rattle.job.specs.Pipeline.{Stage, Pipeline}
use Rattle.job.specs.Answers.{grid_of, has_tiles}
use Rattle.job.specs.Readers.{stage_grid, grid_at}
use Rattle.job.specs.WellFormed.{IsStage, IsJob}
use Rattle.tile_boxes.specs.Targets.{IsTarget, target_over}

-- a stage that has a grid
pub record Gridded (job : Pipeline) (g : ℕ) (grid : Grid) : Type 0 where
  pub stage : Stage
  pub there : slice_get job.stages g ≡ Some stage
  pub tiles : has_tiles stage.body ≡ true
  pub is : grid_of job stage ≡ grid

pub gridded : (job : Pipeline) (g : ℕ) (grid : Grid) → grid_at job g ≡ Some grid → Gridded job g grid
gridded job g grid = by (slice_get job.stages g) refl
  where
    pick : (s : Stage) (b : Bool) → slice_get job.stages g ≡ Some s → has_tiles s.body ≡ b
        → (if b then Some (grid_of job s) else None) ≡ Some grid → Gridded job g grid
    pick s true there tiles is = record { stage = s; there = there; tiles = tiles; is = cc }
    pick s false there tiles is = absurd (cc)

    by : (o : Option Stage) → slice_get job.stages g ≡ o → stage_grid job o ≡ Some grid → Gridded job g grid
    by None there is = absurd (cc)
    by (Some s) there is = pick s (has_tiles s.body) there refl is

-- grids are as they should be
grid_of_stage_fits : (job : Pipeline) (g : ℕ) (s : Stage) → IsJob job → slice_get job.stages g ≡ Some s → IsGrid (grid_of job s)
grid_of_stage_fits job g s h there =
    let stage : IsStage job s = h.stages g s there in
    record { area = record { rows = stage.rows.span; cols = stage.cols.span }; sides = h.sides }

pub grid_fits : (job : Pipeline) (g : ℕ) (grid : Grid) → IsJob job → grid_at job g ≡ Some grid → IsGrid grid
grid_fits job g grid h at = let of = gridded job g grid at in subst IsGrid of.is (grid_of_stage_fits job g of.stage h of.there)

pub tile_of_stage_is_target : (job : Pipeline) (inlining : List Bool) (g : ℕ) (s : Stage) (i j : ℕ) → IsJob job
    → slice_get job.stages g ≡ Some s → HasTile (grid_of job s) i j
    → IsTarget (target_over job inlining g (tile_area (grid_of job s) i j))
tile_of_stage_is_target job inlining g s i j h there has =
    record {
      owner =
          s;
      there =
          there;
      area = tile_fits (grid_of job s) i j (grid_of_stage_fits job g s h there) has;
      inside = tile_inside (grid_of job s) i j;
    }

pub tile_is_target : (job : Pipeline) (inlining : List Bool) (g i j : ℕ) (grid : Grid) → IsJob job → grid_at job g ≡ Some grid
    → HasTile grid i j → IsTarget (target_over job inlining g (tile_area grid i j))
tile_is_target job inlining g i j grid h at =
    let of = gridded job g grid at in
    subst (λ (x : Grid). HasTile x i j → IsTarget (target_over job inlining g (tile_area x i j))) of.is
    (tile_of_stage_is_target job inlining g of.stage i j h of.there)
