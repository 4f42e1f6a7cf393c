use Rattle.std.proofs.Common.{◌≡◌, map}
use Rattle.std.specs.List.{range_with_len}
use Rattle.job.specs.Kept.{pipeline_in}
use Rattle.tile_boxes.specs.Costs.{cost}
use Rattle.grouping.proofs.greedy.Grouper.list_stage_costs.Given as goal

abbrev pub invariant-loop-number : goal.invariant-loop-number
invariant-loop-number l = l.costs.items ≡ map (cost (pipeline_in l.job) l.self.inlining) (range_with_len 0 l.number)
