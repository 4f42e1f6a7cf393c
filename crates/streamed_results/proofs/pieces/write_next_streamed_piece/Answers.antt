use Rattle.std.proofs.Common.{◌≡◌, ◌-◌, length, drop, sym, ap, ◌∙◌, arith, length-append, take_at}
use Rattle.command_faults.proofs.Taken.{takes_of}
use Rattle.job.specs.Kept.{pipeline_in}
use Rattle.job.specs.Views.{output_view}
use Rattle.raw_rows.specs.Rows.{raw_rows}
use Rattle.streamed_results.proofs.PiecesAreRows.{piece_len}
use Rattle.streamed_results.proofs.pieces.write_next_streamed_piece.Goals as goal

pub slice_bounds-write_all_bytes-end : goal.slice_bounds-write_all_bytes-end
slice_bounds-write_all_bytes-end g c =
    let bytes = c.count_bytes_of_streamed_rows-len in
    let piece = c.encode_next_streamed_rows in
    let long = piece_len c.args.stream.now c.min-count.result bytes.result piece.new.out piece.ensures.bytes bytes.ensures.rows in
    omega (arith, length-append piece.new.out (drop bytes.result c.args.buffer.now))

pub slice_bounds-write_all_bytes-end-2 : goal.slice_bounds-write_all_bytes-end-2
slice_bounds-write_all_bytes-end-2 g c =
    let bytes = c.count_bytes_of_streamed_rows-len in
    let piece = c.encode_next_streamed_rows in
    let long = piece_len c.args.stream.now c.min-count.result bytes.result piece.new.out piece.ensures.bytes bytes.ensures.rows in
    sym (ap length (take_at piece.new.out (drop bytes.result c.args.buffer.now) bytes.result long) ∙ long)

pub returns-clause-written : goal.returns-clause-written
returns-clause-written g c =
    let s = c.args.stream.now in
    let bytes = c.count_bytes_of_streamed_rows-len in
    let piece = c.encode_next_streamed_rows in
    let long = piece_len s c.min-count.result bytes.result piece.new.out piece.ensures.bytes bytes.ensures.rows in
    let count : c.min-count.result ≡ piece.new.self.steps.row - s.steps.row = omega arith in
    let is =
    take_at piece.new.out (drop bytes.result c.args.buffer.now) bytes.result long ∙ piece.ensures.bytes
    ∙ ap (raw_rows (pipeline_in s.steps.job.now) (output_view s.output.now) s.steps.row) count in
    let wrote = c.write_all_bytes.ensures in
    takes_of c.write_all_bytes.result _ _ _ _ _ (rw is at wrote.ok) (rw is at wrote.part) wrote.failed
