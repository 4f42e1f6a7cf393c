use Rattle.std.proofs.Common.{◌≡◌, ◌++◌, drop}
use Rattle.std.specs.List.{flat_map}
use Rattle.accumulators.specs.Answers.{gathered}
use Rattle.job.specs.Kept.{pipeline_in}
use Rattle.command_jobs.specs.inside.Gathering.{gathered_line}
use Rattle.command_jobs.proofs.totals.make_total_lines.Given as goal

abbrev pub invariant-loop-total : goal.invariant-loop-total
invariant-loop-total l =
    l.lines.items ++ flat_map (λ t. gathered_line (pipeline_in l.job) (gathered t)) (drop l.total-index l.totals)
    ≡ flat_map (λ t. gathered_line (pipeline_in l.job) (gathered t)) l.totals
