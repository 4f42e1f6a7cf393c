-- Where what is given is true, so is a tile that is made of it.
use Rattle.std.proofs.Common.{ℕ, ℤ, ◌≡◌, Bool, List, Some, ap, sym, ◌∙◌, subst}
use Rattle.std.specs.Prelude.{Contains}
use Rattle.domains.specs.declared.area.Area.{Area}
use Rattle.job.specs.Answers.{Tile}
use Rattle.job.specs.Pipeline.{Pipeline}
use Rattle.job.specs.Values.{value}
use Rattle.job.specs.WellFormed.{IsJob}
use Rattle.tile_boxes.specs.Targets.{Target, target_over}
use Rattle.overlap_tiles.specs.Needs.{IsNeeded}
use Rattle.overlap_tiles.specs.Plans.{TileLayout, IsTileLayout}
use Rattle.overlap_tiles.proofs.NeedsAreExact.{to_needs}
use Rattle.overlap_tiles.proofs.TilesAreTargets.{tile_is_target}
use Rattle.tile_eval.specs.Raster.{raster}
use Rattle.tile_sources.specs.KnownTiles.{KnownTiles, AreTrue}
use Rattle.one_tile.specs.Runs.{NeedsGiven, AreLocalOn, AreValuesOn}
use Rattle.one_tile.proofs.NeedsCloseTargets.{values_over}
use Rattle.one_tile.proofs.LayoutsPrepare.{only_area}

module _ (job : Pipeline) (inlining : List Bool) (given : KnownTiles) (l : TileLayout) (g i j : ℕ) (is : IsTileLayout job inlining g i j l)
    (good : IsJob job) (are_given : NeedsGiven given l.needs) where
  abbrev of_tile : Target
  of_tile = target_over job inlining g is.area

  -- each tile that is needed is given
  pub gives : (n : Tile) → IsNeeded of_tile n → (xs : List ℤ) × (given n.stage n.row n.col ≡ Some xs)
  gives n needed = are_given n (subst (λ (ns : List Tile). Contains ns n) (sym is.layout.layout.needs) (to_needs of_tile n good needed))

  pub layout_true : AreTrue job given → (numbers : List ℤ) → AreLocalOn job inlining given g i j numbers → AreValuesOn job g i j numbers
  layout_true right numbers local area at =
      local is.area is.tile
      ∙ values_over of_tile good (tile_is_target job inlining g i j is.area good is.tile) given gives right
      ∙ ap (λ (a : Area). raster a (value job g)) (only_area job inlining given l g i j is area at)
