use Rattle.std.proofs.Common.{◌≡◌}
use Rattle.streamed_results.proofs.summed.join_all_totals_of_result_strips.Given as goal

abbrev pub invariant-loop-others : goal.invariant-loop-others
invariant-loop-others l = l.totals.job ≡ l.fn.totals.job
