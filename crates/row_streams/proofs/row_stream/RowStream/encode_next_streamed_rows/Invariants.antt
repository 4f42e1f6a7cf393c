use Rattle.std.proofs.Common.{◌≡◌, ◌+◌, ◌*◌, take}
use Rattle.job.specs.Kept.{pipeline_in}
use Rattle.job.specs.Views.{output_view}
use Rattle.raw_rows.specs.Rows.{raw_rows}
use Rattle.row_streams.proofs.row_stream.RowStream.encode_next_streamed_rows.Given as goal

abbrev pub invariant-loop-k : goal.invariant-loop-k
invariant-loop-k l = record {
  bytes : take (l.k * l.len) l.out ≡ raw_rows (pipeline_in l.fn.self.steps.job.now) (output_view l.fn.self.output.now) l.fn.self.steps.row l.k;
  row : l.self.steps.row ≡ l.fn.self.steps.row + l.k;
  job : l.self.steps.job ≡ l.fn.self.steps.job;
  output : l.self.output ≡ l.fn.self.output;
  end : l.self.steps.end ≡ l.fn.self.steps.end;
}
