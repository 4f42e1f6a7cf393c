use Rattle.std.proofs.Common.{◌≡◌, ◌++◌, ◌∷◌, [], ◌&&◌, ap, sym, ◌∙◌, arith, map, length}
use Rattle.std.specs.List.{range_with_len}
use Rattle.std.proofs.lemmas.List.{length-map}
use Rattle.job.specs.Views.{stage_view}
use Rattle.std.specs.Prelude.{slice_get}
use Rattle.job.specs.Kept.{pipeline_in}
use Rattle.tile_boxes.specs.Costs.{cost, stage_fits}
use Rattle.tile_boxes.specs.Tallies.{all_stages_fit}
use Rattle.tile_boxes.proofs.Lists.{map_range_more}
use Rattle.tile_boxes.proofs.CostsAddUp.{all_more, all_fit}
use Rattle.tile_boxes.proofs.costs.survey_stage_costs.Goals as goal

pub loop-number-preserved : goal.loop-number-preserved
loop-number-preserved c =
    let job = pipeline_in c.args.job.now in
    let inlining = c.args.inlining.now in
    let n = c.loop-number.number in
    let before = c.loop-number.invariant in (
      c.in_ok-add_stage_tally.ensures.costs ∙ (λ i. before.0 i ++ c.in_ok-tally_stage_tiles.ensures.cost i ∷ []) ∙ sym (map_range_more (cost job inlining) n),
      c.in_ok-add_stage_tally.ensures.fits ∙ (λ i. before.1 i && c.in_ok-tally_stage_tiles.ensures.fits i)
          ∙ sym (all_more (λ g. stage_fits job inlining g (slice_get job.stages g)) n),
    )

pub returns-clause-fits : goal.returns-clause-fits
returns-clause-fits c =
    let job = pipeline_in c.args.job.now in
    let inlining = c.args.inlining.now in
    let stages = c.stages-number-end.result.now in
    let counted : length (map stage_view stages) ≡ length job.stages = ap length c.stages-number-end.ensures in
    let last : c.loop-number.number ≡ length job.stages = omega
    (arith, counted, length-map stages stage_view, c.loop-number-test.false, c.loop-number.auto.number-end) in
    λ fits. all_fit job inlining
    (ap (λ n. all_stages_fit job inlining (range_with_len 0 n)) (sym last) ∙ sym c.loop-number.invariant.1 ∙ fits)
