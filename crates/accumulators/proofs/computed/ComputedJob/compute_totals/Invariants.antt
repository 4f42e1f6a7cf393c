use Rattle.std.proofs.Common.{◌≡◌, map}
use Rattle.std.specs.List.{flat_map, range_with_len}
use Rattle.job.specs.Kept.{pipeline_in}
use Rattle.accumulators.specs.Answers.{gathered, gathered_at}
use Rattle.accumulators.proofs.computed.ComputedJob.compute_totals.Given as goal

abbrev pub invariant-loop-stage : goal.invariant-loop-stage
invariant-loop-stage g l = map gathered l.all.items ≡ flat_map (gathered_at (pipeline_in l.fn.self.job.now)) (range_with_len 0 l.stage)
