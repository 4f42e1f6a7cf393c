use Rattle.std.proofs.Common.{◌≡◌, length}
use Rattle.job.specs.Kept.{pipeline_in}
use Rattle.value_ranges.specs.inside.Found.{AreKnown}
use Rattle.value_ranges.proofs.stages.improve_value_ranges_of_rank.Given as goal

abbrev pub invariant-loop-stage : goal.invariant-loop-stage
invariant-loop-stage l = (length l.ranges ≡ length l.fn.ranges) × AreKnown (pipeline_in l.job) l.ranges
