use Rattle.std.proofs.Common.{◌≡◌, ◌≤◌, ◌-◌}
use Rattle.command_faults.specs.Taking.{TakesAll}
use Rattle.streamed_results.specs.Pieces.{bytes_up_to}
use Rattle.streamed_results.proofs.pieces.write_each_streamed_piece.Given as goal

abbrev pub invariant-loop-stream : goal.invariant-loop-stream
invariant-loop-stream g l = record {
  taken : TakesAll (bytes_up_to l.fn.stream l.stream.steps.row) (g.W.Sink.contents l.fn.writer) (g.W.Sink.contents l.writer)
      (g.W.Sink.failures l.fn.writer) (g.W.Sink.failures l.writer);
  job : l.stream.steps.job ≡ l.fn.stream.steps.job;
  output : l.stream.output ≡ l.fn.stream.output;
  end : l.stream.steps.end ≡ l.fn.stream.steps.end;
  on : l.fn.stream.steps.row ≤ l.stream.steps.row;
  within : l.stream.steps.row - l.fn.stream.steps.row ≤ l.fn.stream.steps.end - l.fn.stream.steps.row;
}

abbrev pub decreases-loop-stream : goal.decreases-loop-stream
decreases-loop-stream g l = l.stream.steps.end - l.stream.steps.row
