-- A tile of an accumulator, from all tiles of the stored functions.
use Rattle.std.proofs.Common.{ℕ, ℤ, ◌≡◌, ◌≤◌, arith, sym, ap, ◌∙◌, subst, Bool, true, Option, None, List}
use Rattle.std.specs.Prelude.{IsSomeAnd}
use Rattle.std.proofs.lemmas.Option.{same_Some}
use Rattle.domains.specs.Span.{Ends}
use Rattle.domains.specs.Tiles.{HasTile, tile_area}
use Rattle.domains.specs.declared.area.Area.{Area}
use Rattle.domains.specs.declared.grid.Grid.{Grid}
use Rattle.operators.specs.declared.operator.ReductionOp.{ReductionOp}
use Rattle.job.specs.Answers.{grid_of, has_tiles}
use Rattle.job.specs.Identity.{HasTileAt}
use Rattle.job.specs.Pipeline.{Pipeline}
use Rattle.job.specs.Totals.{totals_over}
use Rattle.job.specs.WellFormed.{IsJob}
use Rattle.tile_boxes.specs.Costs.{scratch, most_scratch}
use Rattle.tile_boxes.specs.Targets.{target_over}
use Rattle.overlap_tiles.specs.Plans.{TileLayout, IsTileAt, IsTileFault, IsTileLayout}
use Rattle.overlap_tiles.specs.declared.fault.PlanFault.TheVariants.{ScratchTooBig}
use Rattle.tile_sources.specs.KnownTiles.{KnownTiles, AreTrue}
use Rattle.tile_run.specs.StageRuns.{GivesNeedsOf}
use Rattle.tile_run.specs.Work.{first_too_big, is_accumulator_at}
use Rattle.tile_run.proofs.FirstTooBig.{none_too_big}
use Rattle.accumulators.specs.inside.Making.{IsGathered}
use Rattle.partials.specs.Partials.{AreLocalTotals}
use Rattle.accumulators.proofs.TotalsOfAnswer.{grid_there, is_wanted}
use Rattle.partials.proofs.TrueTilesGiveTotals.{layout_totals_true}

module _ (job : Pipeline) (g : ℕ) (way : ReductionOp) (bins : Ends) (grid : Grid) (is : IsGathered job g way bins grid) (i j : ℕ) where
  -- ---- a tile of the grid

  pub has_tile : HasTile grid i j → HasTileAt job g i j
  has_tile tile = subst (λ (o : Option Grid). IsSomeAnd o (λ d. HasTile d i j)) (sym (grid_there job g way bins grid is)) tile

  same_area : (area : Area) → IsTileAt job g i j area → area ≡ tile_area grid i j
  same_area area at = at.is ∙ ap (λ (d : Grid). tile_area d i j) (same_Some at.grid grid (sym at.there ∙ grid_there job g way bins grid is))

  -- has room where none is too big
  has_room : (inlining : List Bool) (area : Area) → first_too_big job inlining (is_accumulator_at job) ≡ None → HasTile grid i j
      → IsTileAt job g i j area → scratch (target_over job inlining g area) ≤ most_scratch
  has_room inlining area none tile at =
      let has : has_tiles is.stage.body ≡ true = ap has_tiles is.body in
      let here : tile_area (grid_of job is.stage) i j ≡ area = ap (λ (d : Grid). tile_area d i j) (sym is.parted)
      ∙ sym (same_area area at) in
      subst (λ (a : Area). scratch (target_over job inlining g a) ≤ most_scratch) here
      (none_too_big job inlining (is_accumulator_at job) none g is.stage is.there has (is_wanted job g way bins grid is) i j
      (subst (λ (d : Grid). HasTile d i j) is.parted tile))

  pub not_too_big : (inlining : List Bool) → first_too_big job inlining (is_accumulator_at job) ≡ None → HasTile grid i j
      → ¬ (IsTileFault job inlining g i j ScratchTooBig)
  not_too_big inlining none tile fault =
      let room = has_room inlining fault.area none tile fault.tile in let over = fault.reason in omega arith

  -- what is gathered from true tiles, where all is given that it needs, is what the job gathers
  pub totals_are : (inlining : List Bool) (given : KnownTiles) → IsJob job → GivesNeedsOf job inlining given g → (l : TileLayout)
      → IsTileLayout job inlining g i j l → AreTrue job given → (xs : List ℤ) → AreLocalTotals job inlining given g i j xs
      → xs ≡ totals_over job (tile_area grid i j) g
  totals_are inlining given good needs l layout right xs local =
      layout_totals_true job inlining given l g i j layout good (needs i j l layout) right xs local layout.area layout.tile
      ∙ ap (λ (a : Area). totals_over job a g) (same_area layout.area layout.tile)
