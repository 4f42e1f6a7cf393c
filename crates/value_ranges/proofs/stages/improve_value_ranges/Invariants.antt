use Rattle.std.proofs.Common.{◌≡◌, length}
use Rattle.job.specs.Kept.{pipeline_in}
use Rattle.value_ranges.specs.inside.Found.{AreKnown}
use Rattle.value_ranges.proofs.stages.improve_value_ranges.Given as goal

abbrev pub invariant-loop-rank : goal.invariant-loop-rank
invariant-loop-rank l = (length l.ranges ≡ length l.fn.ranges) × AreKnown (pipeline_in l.job) l.ranges
