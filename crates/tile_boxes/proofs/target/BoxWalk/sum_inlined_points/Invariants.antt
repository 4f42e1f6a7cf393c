use Rattle.std.proofs.Common.{◌≡◌, ◌+◌, map, drop}
use Rattle.std.specs.List.{sum}
use Rattle.tile_boxes.specs.Walks.{target_of}
use Rattle.tile_boxes.specs.Tallies.{count_points_of_inlined_stage_or_zero}
use Rattle.tile_boxes.proofs.target.BoxWalk.sum_inlined_points.Given as goal

abbrev pub invariant-loop-number : goal.invariant-loop-number
invariant-loop-number l =
    l.total + sum (map (count_points_of_inlined_stage_or_zero (target_of l.self)) (drop l.number-index l.numbers)) ≡ sum
    (map (count_points_of_inlined_stage_or_zero (target_of l.self)) l.numbers)
