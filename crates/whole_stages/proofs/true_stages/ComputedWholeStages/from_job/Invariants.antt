use Rattle.std.proofs.Common.{ℕ, ◌≡◌, ◌<◌, length, slice_index}
use Rattle.job.specs.Kept.{pipeline_in}
use Rattle.whole_stages.specs.Known.{AreTrue, IsServed}
use Rattle.whole_stages.proofs.true_stages.ComputedWholeStages.from_job.Given as goal

abbrev pub invariant-loop-stage : goal.invariant-loop-stage
invariant-loop-stage l =
    (length l.known.buffers.items ≡ length (pipeline_in l.job).stages)
    × AreTrue (pipeline_in l.job) l.known.buffers.items
    × ((k : ℕ) → k < l.stage-index → IsServed (pipeline_in l.job) l.known.buffers.items (slice_index l.stages k))
