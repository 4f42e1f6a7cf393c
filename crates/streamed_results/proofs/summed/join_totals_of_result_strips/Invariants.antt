use Rattle.std.proofs.Common.{◌≡◌}
use Rattle.streamed_results.proofs.summed.join_totals_of_result_strips.Given as goal

abbrev pub invariant-loop-strip : goal.invariant-loop-strip
invariant-loop-strip l = l.totals.job ≡ l.fn.totals.job
