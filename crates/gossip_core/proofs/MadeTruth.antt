-- What is made of a tile is true, where all is true that is held of the tiles that it needs.
use Rattle.std.proofs.Common.{◌≡◌, Bool, List, refl, sym, ap, ◌∙◌}
use Rattle.std.specs.List.{flat_map}
use Rattle.partials.proofs.LastStepIsTile.{only_area}
use Rattle.partials.proofs.TrueTilesGiveTotals.{layout_totals_true}
use Rattle.partials.specs.Partials.{local_totals}
use Rattle.catalog.specs.Entries.{AreJobs, Entry, IsCatalog}
use Rattle.identity.specs.declared.job_ids.JobId.{JobId}
use Rattle.domains.specs.declared.area.Area.{Area}
use Rattle.fact_audit.specs.TrueFacts.{BodyIsTrue, IsTrueFact}
use Rattle.fact_audit.specs.Verdicts.{HasEntry}
use Rattle.tile_boxes.specs.Costs.{points, steps}
use Rattle.tile_boxes.specs.Targets.{Target, target_over}
use Rattle.identity.specs.declared.key.Key.{Key}
use Rattle.job.specs.Pipeline.{Pipeline}
use Rattle.job.specs.WellFormed.{IsJob}
use Rattle.overlap_tiles.proofs.MadeIsLayout.{layout_in}
use Rattle.overlap_tiles.proofs.RangesHaveRoom.{have_room}
use Rattle.overlap_tiles.specs.Needs.{needed_keys}
use Rattle.overlap_tiles.specs.Plans.{IsTileAt, IsTileLayout, IsTilePlan, Plan, layout_of}
use Rattle.overlap_tiles.specs.inside.Made.{ranges_for, size_of}
use Rattle.sha2.specs.Sha256.{sha256}
use Rattle.tile_eval.specs.Raster.{raster}
use Rattle.tile_fact.specs.declared.body.Body.{Body}
use Rattle.tile_fact.specs.declared.body.Body.TheVariants.{Tile, Partial}
use Rattle.tile_fact.specs.declared.fact.Fact.{Fact}
use Rattle.one_tile.proofs.LayoutsPrepare.{keys_given}
use Rattle.one_tile.proofs.TrueTilesGiveValues.{layout_true}
use Rattle.tile_sources.specs.KnownTiles.{AreTrue, KnownTiles}
use Rattle.one_tile.specs.Local.{local_value}
use Rattle.one_tile.specs.Runs.{NeedsGiven}
use Rattle.held_facts.specs.Making.{AreNeedsTrue, IsLocalBody, IsMade, needed_tiles, needs_for}
use Rattle.held_facts.specs.Facts.{FactSet, facts_of}
use Rattle.held_facts.proofs.LocalBodies.{true_partial, true_tile}
use Rattle.held_facts.proofs.MadeFacts.{needed_true, true_fact}
use Rattle.held_facts.proofs.ReadyNeeds.{all_told, needed_function}
use Rattle.held_facts.proofs.ToldTiles.{told_true}

module _ (jobs : List Entry) (s : FactSet) (inlining : List Bool) (fact : Fact) (catalog : IsCatalog jobs) (well : AreJobs jobs)
    (right : AreNeedsTrue jobs s inlining fact.key) (is : IsMade jobs s inlining fact) where
  abbrev key : Key
  key = fact.key

  abbrev job : Pipeline
  job = is.entry.pipeline

  abbrev area : Area
  area = is.holds.area

  abbrev target : Target
  target = target_over job inlining key.stage area

  abbrev given : KnownTiles
  given = needed_tiles s (needs_for key target)

  found : HasEntry jobs key is.entry
  found = (is.index, is.there, is.ids)

  good : IsJob job
  good = well is.index is.entry is.there

  -- ---- the plan of the tile

  abbrev plan : Plan
  plan = record {
    needs = needs_for key target;
    steps = steps target;
    points = points target;
    ranges = ranges_for target;
    scratch = size_of (ranges_for target);
    inlining = inlining;
  }

  planned : IsTilePlan (sha256 is.entry.text) job inlining key.stage key.row key.col plan
  planned = record {
    area = area;
    tile = is.holds.tile;
    plan = record {
      plan =
          record {
            needs = ap (λ (ids : JobId). needed_keys ids.program target) (sym is.ids);
            steps = refl;
            points = refl;
            ranges = have_room target;
            inlining = refl;
          };
      fits = is.holds.holds.room;
    };
  }

  laid : IsTileLayout job inlining key.stage key.row key.col (layout_of plan)
  laid = layout_in (sha256 is.entry.text) job inlining key.stage key.row key.col plan planned

  -- ---- what is held of its needs

  true_tiles : AreTrue job given
  true_tiles =
      told_true job (flat_map (facts_of s) plan.needs) (needed_true jobs s inlining key is.entry found plan planned catalog right)

  are_given : NeedsGiven given (layout_of plan).needs
  are_given =
      keys_given given plan.needs
      (all_told s job plan.needs is.holds.holds.ready (λ need asked. needed_function key.program target good need asked))

  -- ---- the numbers

  same_area : (other : Area) → IsTileAt job key.stage key.row key.col other → area ≡ other
  same_area other at = only_area job key.stage key.row key.col area other is.holds.tile at

  body_true : (body : Body) → IsLocalBody target given body → BodyIsTrue job key body
  body_true (Tile xs) local =
      true_tile job key.stage key.row key.col area is.holds.tile local.0 xs
      (layout_true job inlining given (layout_of plan) key.stage key.row key.col laid good are_given true_tiles xs
      (λ other at. local.1 ∙ ap (λ (a : Area). raster a (local_value job inlining given key.stage)) (same_area other at)))
  body_true (Partial xs) local =
      true_partial job key.stage key.row key.col area is.holds.tile local.0 xs
      (layout_totals_true job inlining given (layout_of plan) key.stage key.row key.col laid good are_given true_tiles xs
      (λ other at. local.1 ∙ ap (λ (a : Area). local_totals job inlining given a key.stage) (same_area other at)))

  pub made_true : IsTrueFact jobs fact
  made_true = true_fact jobs s inlining key is.entry found fact.body (body_true fact.body is.holds.holds.numbers)
