use Rattle.std.proofs.Common.{arith, ◌≡◌, reverse, map, ap, ◌∙◌}
use Rattle.std.specs.List.{sum}
use Rattle.tile_boxes.specs.Costs.{scratch}
use Rattle.tile_boxes.specs.Targets.{Target}
use Rattle.tile_boxes.specs.Walks.{target_of, new_empty_boxes, cut_hull, walked}
use Rattle.tile_boxes.specs.Tallies.{count_points_of_inlined_stage_or_zero}
use Rattle.tile_boxes.proofs.WalksGiveBoxes.{walk_gives_boxes}
use Rattle.tile_boxes.proofs.CostsAddUp.{scratch_is}
use Rattle.tile_boxes.proofs.CostsAreSmall.{scratch_small}
use Rattle.tile_boxes.proofs.target.BoxWalk.count_scratch_points.Goals as goal

pub sum_inlined_points-requires : goal.sum_inlined_points-requires
sum_inlined_points-requires c =
    let t : Target = target_of c.args.self.now in
    let stages = t.job.stages in
    let walk = c.deref.ensures.value ∙ c.in_ok-hulls.ensures ∙ ap (λ order. walked t (new_empty_boxes stages) (reverse order)) c.requires.order in
    let all : sum (map (count_points_of_inlined_stage_or_zero t) c.args.order.now) ≡ scratch t = ap (λ order. sum (map (count_points_of_inlined_stage_or_zero t) order)) c.requires.order
    ∙ scratch_is t in
    record {
      boxes = λ g. ap (λ hs. cut_hull stages hs g) walk ∙ walk_gives_boxes t g c.args.self.now.job.now.well;
      few = omega (arith, all, scratch_small t c.args.self.now.job.now.well);
    }

pub returns : goal.returns
returns c =
    let t : Target = target_of c.args.self.now in
    c.sum_inlined_points.ensures ∙ ap (λ order. sum (map (count_points_of_inlined_stage_or_zero t) order)) c.requires.order ∙ scratch_is t
