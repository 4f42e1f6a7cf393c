use Rattle.std.proofs.Common.{ℕ, ◌≡◌, ◌+◌, ◌*◌, ◌<◌, length}
use Rattle.std.specs.Prelude.{slice_index_or}
use Rattle.job.specs.Kept.{pipeline_in}
use Rattle.job.specs.Pipeline.{rank_of}
use Rattle.job.specs.Reads.{stage_read}
use Rattle.job.specs.declared.reads.Read.{Read}
use Rattle.job.specs.ReadViews.{read_view}
use Rattle.whole_stages.specs.Known.{AreTrue, AreKnownOf}
use Rattle.whole_stages.specs.inside.Kept.{KnowsMore}
use Rattle.whole_stages.proofs.buffers.StageBuffers.+compute_stage_after_its_reads.Given as goal

-- reads lead to lower ranks
abbrev pub decreases-compute_stage_after_its_reads : goal.decreases-compute_stage_after_its_reads
decreases-compute_stage_after_its_reads l = rank_of (pipeline_in l.job.now).stages l.stage * 2 + 1

abbrev pub decreases-compute_stages_that_stage_reads : goal.decreases-compute_stages_that_stage_reads
decreases-compute_stages_that_stage_reads l = rank_of (pipeline_in l.job.now).stages l.stage * 2

abbrev pub invariant-compute_stages_that_stage_reads-loop-read : goal.invariant-compute_stages_that_stage_reads-loop-read
invariant-compute_stages_that_stage_reads-loop-read l =
    (length l.self.buffers.items ≡ length (pipeline_in l.job).stages)
    × AreTrue (pipeline_in l.job) l.self.buffers.items
    × KnowsMore l.fn.self.buffers.items l.self.buffers.items
    × ((k : ℕ) (d : Read) → k < l.read-index
    → AreKnownOf (pipeline_in l.job) l.self.buffers.items (stage_read (read_view (slice_index_or l.reads k d))))
