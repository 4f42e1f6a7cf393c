use Rattle.std.proofs.Common.{refl, ◌∙◌, arith}
use Rattle.command_faults.proofs.Taken.{all_none, all_then, part_front, part_then, takes_err}
use Rattle.streamed_results.specs.Pieces.{bytes_up_to}
use Rattle.streamed_results.proofs.PiecesAreRows.{all_as, bytes_behind, part_as, up_all, up_behind, up_none, up_then}
use Rattle.streamed_results.proofs.pieces.write_each_streamed_piece.Goals as goal

pub loop-stream-init : goal.loop-stream-init
loop-stream-init g c = record {
  taken =
      all_as _ _ _ _ _ _ (up_none c.args.stream.now)
      (all_none (g.W.Sink.contents c.args.writer.now) (g.W.Sink.failures c.args.writer.now));
  job = refl;
  output = refl;
  end = refl;
  on = omega arith;
  within = omega arith;
}

pub loop-stream-preserved : goal.loop-stream-preserved
loop-stream-preserved g c =
    let before = c.loop-stream.invariant in
    let piece = c.in_ok-write_next_streamed_piece.ensures in
    let row = c.write_next_streamed_piece.new.stream.steps.row in
    let more = up_then c.args.stream.now c.loop-stream.stream row before.job before.output before.on (omega arith) in record {
      taken = all_as _ _ _ _ _ _ more (all_then _ _ _ _ _ _ _ _ before.taken piece.written);
      job = piece.job ∙ before.job;
      output = piece.output ∙ before.output;
      end = piece.end ∙ before.end;
      on = omega arith;
      within = omega arith;
    }

pub returns-in_err-write_next_streamed_piece : goal.returns-in_err-write_next_streamed_piece
returns-in_err-write_next_streamed_piece g c =
    let s = c.args.stream.now in
    let row = c.write_next_streamed_piece.new.stream.steps.row in
    let before = c.loop-stream.invariant in
    let piece = c.in_err-write_next_streamed_piece.ensures in
    let more = up_then s c.loop-stream.stream row before.job before.output before.on (omega arith) in
    let part = part_as _ _ _ _ _ _ more (part_then _ _ _ _ _ _ _ _ before.taken piece.written) in
    let whole = part_as _ _ _ _ _ _ (up_behind s row (omega arith) (omega arith)) (part_front (bytes_up_to s row) (bytes_behind s row) _ _ _ _ part) in
    takes_err c.from_residual.result _ _ _ _ _ c.from_residual.ensures.0 whole

pub returns : goal.returns
returns g c =
    let before = c.loop-stream.invariant in
    all_as _ _ _ _ _ _ (up_all c.args.stream.now c.loop-stream.stream.steps.row (omega arith)) before.taken
