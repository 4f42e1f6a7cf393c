use Rattle.std.proofs.Common.{◌≡◌, map, drop, max}
use Rattle.domains.specs.Greatest.{greatest}
use Rattle.job.specs.Pipeline.{rank_of}
use Rattle.job.specs.Reads.{stage_read}
use Rattle.job.specs.ReadViews.{read_view}
use Rattle.job.specs.Views.{stage_view}
use Rattle.part_stages.proofs.part_ranks.find_greatest_part_rank.Given as goal

abbrev pub invariant-loop-read : goal.invariant-loop-read
invariant-loop-read l =
    max l.greatest (greatest (map (λ x. rank_of (map stage_view l.stages) (stage_read x)) (map read_view (drop l.read-index l.reads))))
    ≡ greatest (map (λ x. rank_of (map stage_view l.stages) (stage_read x)) (map read_view l.reads))
