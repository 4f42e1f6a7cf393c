use Rattle.std.proofs.Common.{◌≡◌, drop}
use Rattle.job.specs.Kept.{pipeline_in}
use Rattle.tile_boxes.specs.Order.{backward}
use Rattle.grouping.specs.inside.Trials.{grouping_of}
use Rattle.grouping.proofs.GreedyIsTheRule.{Left}
use Rattle.grouping.proofs.greedy.group_stages_greedily.Given as goal

abbrev pub invariant-loop-number : goal.invariant-loop-number
invariant-loop-number l =
    (l.number-items ≡ backward (pipeline_in l.job).stages)
    × Left (pipeline_in l.job) l.percent (grouping_of l.grouping) l.grouping.standings.items (drop l.number-index l.number-items)
