use Rattle.std.proofs.Common.{◌≡◌}
use Rattle.streamed_results.proofs.summed.add_other_rows_of_streamed_result.Given as goal

abbrev pub invariant-loop-stage : goal.invariant-loop-stage
invariant-loop-stage g l = l.totals.job ≡ l.fn.totals.job
