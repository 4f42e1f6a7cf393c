use Rattle.std.proofs.Common.{◌≡◌, ◌-◌, length}
use Rattle.row_streams.proofs.row_steps.RowStreamSteps.make_rows_before_next_streamed_row.Given as goal

abbrev pub invariant-loop-stage : goal.invariant-loop-stage
invariant-loop-stage l = record {
  row : l.self.row ≡ l.fn.self.row;
  job : l.self.job ≡ l.fn.self.job;
  outputs : l.self.outputs ≡ l.fn.self.outputs;
  end : l.self.end ≡ l.fn.self.end;
}

abbrev pub decreases-loop-stage : goal.decreases-loop-stage
decreases-loop-stage l = length l.self.steps.items - l.self.at
