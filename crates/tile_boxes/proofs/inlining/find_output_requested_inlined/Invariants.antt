use Rattle.std.proofs.Common.{◌≡◌, ◌<◌, ℕ, true, false}
use Rattle.job.specs.Kept.{pipeline_in}
use Rattle.job.specs.Answers.{is_output}
use Rattle.tile_boxes.specs.Schedules.{is_inlined, inlining_for}
use Rattle.tile_boxes.proofs.inlining.find_output_requested_inlined.Given as goal

abbrev pub invariant-loop-number : goal.invariant-loop-number
invariant-loop-number l =
    (k : ℕ) → k < l.number → is_inlined (inlining_for (pipeline_in l.job) l.asked) k ≡ true → is_output (pipeline_in l.job) k ≡ false
