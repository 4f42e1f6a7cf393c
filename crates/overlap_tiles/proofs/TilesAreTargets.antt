-- Tiles of stages.
use Rattle.std.proofs.Common.{ℕ, sym, subst, Bool, List}
use Rattle.domains.specs.declared.area.Area.{Area}
use Rattle.job.specs.Pipeline.{Pipeline}
use Rattle.job.specs.WellFormed.{IsJob}
use Rattle.tile_boxes.specs.Targets.{IsTarget, target_over}
use Rattle.tile_boxes.proofs.TilesAreTargets.{tile_is_target as target_of_tile}
use Rattle.overlap_tiles.specs.Plans.{IsTileAt}

-- a tile is a target
pub tile_is_target : (job : Pipeline) (inlining : List Bool) (g i j : ℕ) (area : Area) → IsJob job → IsTileAt job g i j area
    → IsTarget (target_over job inlining g area)
tile_is_target job inlining g i j area good tile =
    subst (λ (x : Area). IsTarget (target_over job inlining g x)) (sym tile.is)
    (target_of_tile job inlining g i j tile.grid good tile.there tile.tile)
