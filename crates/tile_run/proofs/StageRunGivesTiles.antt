-- A tile of a stored function is made of those that are given.
use Rattle.std.proofs.Common.{ℕ, ℤ, ◌≡◌, Bool, true, false, Option, List, length, ap, sym, ◌∙◌}
use Rattle.std.specs.Option.{option_map_or}
use Rattle.std.proofs.lemmas.Option.{same_Some}
use Rattle.domains.specs.Tiles.{tile_area}
use Rattle.domains.specs.declared.area.Area.{Area}
use Rattle.domains.specs.declared.grid.Grid.{Grid}
use Rattle.job.specs.Answers.{grid_of}
use Rattle.job.specs.Pipeline.{Stage, Pipeline}
use Rattle.job.specs.Values.{value}
use Rattle.job.specs.WellFormed.{IsJob}
use Rattle.tile_boxes.specs.Schedules.{is_function_stage, is_function_body}
use Rattle.tile_boxes.proofs.TilesAreTargets.{gridded}
use Rattle.overlap_tiles.specs.Plans.{TileLayout, IsTileLayout}
use Rattle.tile_eval.specs.Raster.{raster}
use Rattle.tile_eval.proofs.Rasters.{raster_len}
use Rattle.tile_sources.specs.KnownTiles.{KnownTiles, AreWhole}
use Rattle.one_tile.specs.Runs.{AreLocalOn}
use Rattle.tile_run.specs.StageRuns.{tile_values, IsStageReady}
use Rattle.one_tile.specs.Layouts.{IsFunctionLayout}
use Rattle.one_tile.proofs.TrueTilesGiveValues.{layout_true}

module _ (job : Pipeline) (inlining : List Bool) (given : KnownTiles) (g : ℕ) (grid : Grid) (good : IsJob job)
    (ready : IsStageReady job inlining given g grid) where
  -- what is given has as many numbers as points
  pub whole : AreWhole job given
  whole h s there i j xs tile found =
      ap length (ready.right h s there i j xs tile found) ∙ raster_len (tile_area (grid_of job s) i j) (value job h)

  own : is_function_stage job g ≡ true
  own = ap (λ (o : Option Stage). option_map_or (λ s. is_function_body s.body) o false) ready.function.there ∙ ready.function.function

  module _ (i j : ℕ) (l : TileLayout) (is : IsTileLayout job inlining g i j l) where
    pub of_function : IsFunctionLayout job l
    of_function = record { inlining = inlining; stage = g; row = i; col = j; layout = is; function = own }

    same_area : is.area ≡ tile_area grid i j
    same_area =
        let at = gridded job g is.tile.grid is.tile.there in
        let same : is.tile.grid ≡ grid = sym at.is ∙ ap (grid_of job) (same_Some at.stage ready.stage
        (sym at.there ∙ ready.function.there)) ∙ sym ready.parted in
        is.tile.is ∙ ap (λ (d : Grid). tile_area d i j) same

    -- its local values are its values
    pub values_are : (xs : List ℤ) → AreLocalOn job inlining given g i j xs → xs ≡ tile_values job g grid i j
    values_are xs local =
        layout_true job inlining given l g i j is good (ready.needs i j l is) ready.right xs local is.area is.tile
        ∙ ap (λ (a : Area). raster a (value job g)) same_area
