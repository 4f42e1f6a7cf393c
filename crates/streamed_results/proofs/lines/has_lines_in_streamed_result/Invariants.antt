use Rattle.std.proofs.Common.{◌≡◌, []}
use Rattle.std.specs.List.{flat_map, range_with_len}
use Rattle.job.specs.Kept.{pipeline_in}
use Rattle.command_jobs.specs.Results.{line_at}
use Rattle.streamed_results.proofs.lines.has_lines_in_streamed_result.Given as goal

abbrev pub invariant-loop-stage : goal.invariant-loop-stage
invariant-loop-stage l = flat_map (line_at (pipeline_in l.fn.job)) (range_with_len 0 l.stage) ≡ []
