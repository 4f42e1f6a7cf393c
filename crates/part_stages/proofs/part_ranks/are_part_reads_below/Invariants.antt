use Rattle.std.proofs.Common.{◌<◌, take}
use Rattle.std.specs.Prelude.{All}
use Rattle.job.specs.ReadViews.{read_view}
use Rattle.job.specs.Reads.{stage_read}
use Rattle.part_stages.proofs.part_ranks.are_part_reads_below.Given as goal

abbrev pub invariant-loop-read : goal.invariant-loop-read
invariant-loop-read l = All (λ x. stage_read (read_view x) < l.count) (take l.read-index l.reads)
