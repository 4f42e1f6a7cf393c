use Rattle.std.proofs.Common.{◌<◌, length, take}
use Rattle.std.specs.Prelude.{All}
use Rattle.job.specs.Reads.{reads_of, stage_read}
use Rattle.job.specs.Views.{stage_view}
use Rattle.part_stages.proofs.part_ranks.has_own_part_reads.Given as goal

abbrev pub invariant-loop-stage : goal.invariant-loop-stage
invariant-loop-stage l =
    All (λ s. All (λ x. stage_read x < length l.stages) (reads_of (stage_view s).body)) (take l.stage-index l.stages)
