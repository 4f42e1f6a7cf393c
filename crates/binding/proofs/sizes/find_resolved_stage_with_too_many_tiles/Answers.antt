use Rattle.std.proofs.Common.{◌≡◌, ◌<◌, ◌≤◌, Some, slice_get, map, ap, subst, ◌∙◌, arith}
use Rattle.std.specs.Option.{option_map}
use Rattle.std.proofs.lemmas.Option.{slice_get-map}
use Rattle.domains.proofs.Places.{all_more}
use Rattle.domains.proofs.Places.{here_is}
use Rattle.binding.specs.Fits.{tile_count}
use Rattle.job.specs.Views.{stage_view, pipeline_of}
use Rattle.binding.proofs.sizes.find_resolved_stage_with_too_many_tiles.Goals as goal

pub returns-then-count_resolved_stage_tiles-gt-MOST_TILES-clause-some :
    goal.returns-then-count_resolved_stage_tiles-gt-MOST_TILES-clause-some
returns-then-count_resolved_stage_tiles-gt-MOST_TILES-clause-some c =
    let stages = c.args.pipeline.now.stages.items in
    let n = c.loop-number.number in
    let more = c.if-count_resolved_stage_tiles-gt-MOST_TILES.true in
    let there : slice_get (map stage_view stages) n ≡ Some (stage_view c.stage-item.result) =
    slice_get-map stage_view stages n
    ∙ ap (option_map stage_view)
    (here_is c.deref-stage-items.result.now stages n _ c.deref-stage-items.ensures.value c.loop-number-test.true c.stage-item.is) in
    let many : 65536 < c.count_resolved_stage_tiles.result = omega arith in
    record {
      stage =
          stage_view c.stage-item.result;
      there =
          there;
      crowded = subst (λ k. 65536 < k) c.count_resolved_stage_tiles.ensures many;
      first = c.loop-number.invariant;
    }

pub loop-number-preserved : goal.loop-number-preserved
loop-number-preserved c =
    let stages = c.args.pipeline.now.stages.items in
    let n = c.loop-number.number in
    let less = c.if-count_resolved_stage_tiles-gt-MOST_TILES.false in
    let there : slice_get (map stage_view stages) n ≡ Some (stage_view c.stage-item.result) =
    slice_get-map stage_view stages n
    ∙ ap (option_map stage_view)
    (here_is c.deref-stage-items.result.now stages n _ c.deref-stage-items.ensures.value c.loop-number-test.true c.stage-item.is) in
    let few : c.count_resolved_stage_tiles.result ≤ 65536 = omega arith in
    all_more (λ k s. tile_count (pipeline_of c.args.pipeline.now) s ≤ 65536) (map stage_view stages) n (stage_view c.stage-item.result)
    there
    (subst (λ k. k ≤ 65536) c.count_resolved_stage_tiles.ensures few) c.loop-number.invariant
