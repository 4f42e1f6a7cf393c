use Rattle.std.proofs.Common.{◌≡◌, filter}
use Rattle.std.specs.List.{range_with_len}
use Rattle.job.specs.Answers.{is_result}
use Rattle.job.specs.Kept.{pipeline_in}
use Rattle.overlap_tiles.proofs.work.list_result_work_stages.Given as goal

abbrev pub invariant-loop-stage : goal.invariant-loop-stage
invariant-loop-stage l = l.results.items ≡ filter (is_result (pipeline_in l.job)) (range_with_len 0 l.stage)
