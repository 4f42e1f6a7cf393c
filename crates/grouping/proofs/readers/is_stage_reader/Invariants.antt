use Rattle.std.proofs.Common.{◌≡◌, ◌==◌, map, drop}
use Rattle.std.specs.List.{list_any}
use Rattle.job.specs.Views.{stage_view}
use Rattle.job.specs.Reads.{stage_read, reads_of}
use Rattle.job.specs.ReadViews.{read_view}
use Rattle.grouping.proofs.readers.is_stage_reader.Given as goal

abbrev pub invariant-loop-read : goal.invariant-loop-read
invariant-loop-read l =
    list_any (λ x. stage_read x == l.number) (map read_view (drop l.read-index l.read-items)) ≡ list_any (λ x. stage_read x == l.number)
    (reads_of (stage_view l.stage).body)
