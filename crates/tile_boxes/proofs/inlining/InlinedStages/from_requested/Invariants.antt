use Rattle.std.proofs.Common.{◌≡◌, ◌&&◌, map}
use Rattle.std.specs.List.{range_with_len}
use Rattle.job.specs.Kept.{pipeline_in}
use Rattle.tile_boxes.specs.Schedules.{is_inlined, is_function_stage}
use Rattle.tile_boxes.proofs.inlining.InlinedStages.from_requested.Given as goal

abbrev pub invariant-loop-number : goal.invariant-loop-number
invariant-loop-number l =
    l.inlining.items ≡ map (λ g. is_inlined l.asked g && is_function_stage (pipeline_in l.job) g) (range_with_len 0 l.number)
