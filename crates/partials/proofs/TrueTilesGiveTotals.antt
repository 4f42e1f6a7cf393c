-- What is gathered over a tile from true tiles is what the job gathers there.
use Rattle.std.proofs.Common.{ℕ, ℤ, refl, ap, ◌∙◌, subst, Bool, Some, None, List}
use Rattle.std.specs.Prelude.{if◌then◌else◌}
use Rattle.std.proofs.lemmas.Bool.{eq-eqb}
use Rattle.domains.specs.Area.{HoldsPoint}
use Rattle.domains.specs.declared.area.Area.{Area}
use Rattle.job.specs.Pipeline.{Pipeline, Stage}
use Rattle.job.specs.Reads.{BodyReads}
use Rattle.job.specs.Totals.{totals_over}
use Rattle.job.specs.WellFormed.{IsJob}
use Rattle.tile_boxes.specs.Schedules.{is_inlined}
use Rattle.tile_boxes.specs.Targets.{Target, IsTarget, box, target_over}
use Rattle.overlap_tiles.specs.Plans.{TileLayout, IsTileLayout}
use Rattle.overlap_tiles.proofs.TilesAreTargets.{tile_is_target}
use Rattle.tile_sources.specs.KnownTiles.{KnownTiles, AreTrue}
use Rattle.one_tile.specs.Local.{IsAtHand}
use Rattle.one_tile.specs.Runs.{NeedsGiven}
use Rattle.one_tile.proofs.NeedsCloseTargets.{IsInTarget, closed}
use Rattle.one_tile.proofs.ValuesAreLocal.{same_stage}
use Rattle.one_tile.proofs.LayoutsPrepare.{only_area}
use Rattle.one_tile.proofs.TrueTilesGiveValues.{gives}
use Rattle.partials.specs.Partials.{AreLocalTotals, AreTotalsOn}
use Rattle.partials.proofs.PartialsJoin.{true_totals}

module _ (job : Pipeline) (inlining : List Bool) (given : KnownTiles) (l : TileLayout) (g i j : ℕ) (is : IsTileLayout job inlining g i j l)
    (good : IsJob job) (are_given : NeedsGiven given l.needs) where
  abbrev of_tile : Target
  of_tile = target_over job inlining g is.area

  target : IsTarget of_tile
  target = tile_is_target job inlining g i j is.area good is.tile

  in_target : (r c : ℤ) → HoldsPoint is.area r c → IsInTarget of_tile g r c
  in_target r c holds = record {
    stage = target.owner;
    there = target.there;
    area = is.area;
    is = λ k. if eq-eqb g g refl k then Some is.area else (if is_inlined inlining g then box of_tile g else None);
    holds = holds;
  }

  reads : (r c : ℤ) → HoldsPoint is.area r c → BodyReads (IsAtHand job inlining given (IsInTarget of_tile)) target.owner.body r c
  reads r c holds =
      let p = closed of_tile good target given (gives job inlining given l g i j is good are_given) g r c (in_target r c holds) in
      subst (λ (s : Stage). BodyReads (IsAtHand job inlining given (IsInTarget of_tile)) s.body r c)
      (same_stage job.stages g p.stage target.owner p.there target.there) p.reads

  pub layout_totals_true : AreTrue job given → (bins : List ℤ) → AreLocalTotals job inlining given g i j bins → AreTotalsOn job g i j bins
  layout_totals_true right bins local area at =
      local is.area is.tile
      ∙ true_totals job inlining given (IsInTarget of_tile) g target.owner is.area good target.there target.area right
      (closed of_tile good target given (gives job inlining given l g i j is good are_given)) reads
      ∙ ap (λ (a : Area). totals_over job a g) (only_area job inlining given l g i j is area at)
