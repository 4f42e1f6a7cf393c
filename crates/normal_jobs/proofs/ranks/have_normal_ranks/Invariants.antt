use Rattle.std.proofs.Common.{◌≡◌, map, take}
use Rattle.std.specs.Prelude.{All}
use Rattle.job.specs.Reads.{rank_by}
use Rattle.job.specs.Views.{stage_view}
use Rattle.normal_jobs.proofs.ranks.have_normal_ranks.Given as goal

abbrev pub invariant-loop-stage : goal.invariant-loop-stage
invariant-loop-stage l =
    All (λ s. (stage_view s).rank ≡ rank_by (map stage_view l.stages) (stage_view s).body) (take l.stage-index l.stages)
