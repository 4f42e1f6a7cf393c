use Rattle.std.proofs.Common.{◌≡◌, ◌-◌}
use Rattle.row_streams.proofs.row_steps.RowStreamSteps.add_all_streamed_rows_to_totals.Given as goal

abbrev pub invariant-loop-self : goal.invariant-loop-self
invariant-loop-self l = record {
  totals : l.totals.job ≡ l.fn.totals.job;
  job : l.self.job ≡ l.fn.self.job;
}

abbrev pub decreases-loop-self : goal.decreases-loop-self
decreases-loop-self l = l.self.end - l.self.row
