use Rattle.std.specs.Prelude.{slice_get}
use Rattle.std.specs.Option.{option_map}
use Rattle.job.specs.Views.{stage_view}
use Rattle.tile_boxes.proofs.AloneTakesNone.{alone_takes_none}
use Rattle.std.proofs.Common.{arith, ◌≡◌, ◌≤◌, Some, List, length, ap, sym, ◌∙◌, subst}
use Rattle.domains.specs.declared.area.Area.{Area}
use Rattle.job.specs.Kept.{pipeline_in}
use Rattle.tile_boxes.specs.Tallies.{points_over, all_have_scratch}
use Rattle.tile_boxes.specs.Targets.{target_over}
use Rattle.tile_boxes.proofs.CostsAreSmall.{areas_few, cost_small}
use Rattle.tile_boxes.proofs.CostsAddUp.{targets_from, cost_from, fits_from}
use Rattle.tile_boxes.proofs.costs.tally_stage_tiles.Goals as goal

pub tally_stage_over_tile_areas-requires-clause-targets : goal.tally_stage_over_tile_areas-requires-clause-targets
tally_stage_over_tile_areas-requires-clause-targets c =
    targets_from (pipeline_in c.args.job.now) c.args.inlining.now c.args.number c.in-Some.grid c.deref.result.now c.args.job.now.well
    (sym c.grid.ensures ∙ c.in-Some.is) (c.deref.ensures.value ∙ c.in_ok-areas.ensures)

pub tally_stage_over_tile_areas-requires-clause-few : goal.tally_stage_over_tile_areas-requires-clause-few
tally_stage_over_tile_areas-requires-clause-few c =
    let job = pipeline_in c.args.job.now in
    let areas = c.deref.ensures.value ∙ c.in_ok-areas.ensures in
    let few : length c.deref.result.now ≤ 65536 =
    subst (λ (xs : List Area). length xs ≤ 65536) (sym areas)
    (areas_few job c.args.number c.in-Some.grid c.args.job.now.well (sym c.grid.ensures ∙ c.in-Some.is)) in
    let small = cost_small (target_over job c.args.inlining.now c.args.number c.in-Some.grid.area) c.deref.result.now c.args.job.now.well
    (tally_stage_over_tile_areas-requires-clause-targets c) few in
    omega arith

pub returns-clause-cost : goal.returns-clause-cost
returns-clause-cost c =
    cost_from (pipeline_in c.args.job.now) c.args.inlining.now c.args.number c.in-Some.grid c.in_ok-tally_stage_over_tile_areas.field-0.points
    (sym c.grid.ensures ∙ c.in-Some.is) (cc) (c.in_ok-tally_stage_over_tile_areas.ensures.points
    ∙ ap (points_over (record
    { job = pipeline_in c.args.job.now; inlining = c.args.inlining.now; stage = c.args.number; region = c.in-Some.grid.area }))
    (c.deref.ensures.value ∙ c.in_ok-areas.ensures))

pub returns-clause-fits : goal.returns-clause-fits
returns-clause-fits c =
    fits_from (pipeline_in c.args.job.now) c.args.inlining.now c.args.number c.in-Some.grid c.in_ok-tally_stage_over_tile_areas.field-0.fits
    (sym c.grid.ensures ∙ c.in-Some.is) (cc) (c.in_ok-tally_stage_over_tile_areas.ensures.fits
    ∙ ap (all_have_scratch (record
    { job = pipeline_in c.args.job.now; inlining = c.args.inlining.now; stage = c.args.number; region = c.in-Some.grid.area }))
    (c.deref.ensures.value ∙ c.in_ok-areas.ensures))

pub tally_stage_over_tile_areas-requires-clause-alone : goal.tally_stage_over_tile_areas-requires-clause-alone
tally_stage_over_tile_areas-requires-clause-alone c =
    let job = pipeline_in c.args.job.now in
    let there : slice_get job.stages c.args.number ≡ Some (stage_view c.in-Some-stage.stage.now) = sym c.stage.ensures
    ∙ ap (option_map (λ s. stage_view s.now)) c.in-Some-stage.is in
    λ holds a. alone_takes_none (record { job = job; inlining = c.args.inlining.now; stage = c.args.number; region = a })
    (stage_view c.in-Some-stage.stage.now) there (sym c.has_only_stored_reads-is_alone.ensures ∙ holds)
