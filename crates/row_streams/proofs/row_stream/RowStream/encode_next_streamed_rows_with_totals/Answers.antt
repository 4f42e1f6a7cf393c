use Rattle.std.proofs.Common.{◌≡◌, ◌≤◌, ◌+◌, ◌*◌, length, sym, ap, ◌∙◌, arith, rules}
use Rattle.job.specs.Kept.{pipeline_in}
use Rattle.job.specs.Views.{output_view}
use Rattle.raw_rows.specs.Rows.{raw_rows}
use Rattle.raw_rows.proofs.RowLaws.{raw_rows_len}
use Rattle.row_streams.proofs.Lines.{line_within, rows_more}
use Rattle.row_streams.proofs.row_stream.RowStream.encode_next_streamed_rows_with_totals.Goals as goal

pub slice_bounds-encode_next_streamed_rows-end : goal.slice_bounds-encode_next_streamed_rows-end
slice_bounds-encode_next_streamed_rows-end c =
    let self = c.args.self.now in
    let all : length c.loop-k.out ≡ c.args.count * self.row_len =
    c.loop-k.auto.out ∙ c.requires.len ∙ ap (λ n. c.args.count * n) (sym self.wide) in
    let within = line_within c.loop-k.k c.args.count self.row_len (length c.loop-k.out) (search rules) all in
    search rules

pub loop-k-preserved : goal.loop-k-preserved
loop-k-preserved c =
    let self = c.args.self.now in
    let job = pipeline_in self.steps.job.now in
    let o = output_view self.output.now in
    let k = c.loop-k.k in
    let before = c.loop-k.invariant in
    let row = c.encode_next_streamed_rows in
    let all : length c.loop-k.out ≡ c.args.count * self.row_len =
    c.loop-k.auto.out ∙ c.requires.len ∙ ap (λ n. c.args.count * n) (sym self.wide) in
    let within = line_within k c.args.count self.row_len (length c.loop-k.out) (search rules) all in
    let from : k * self.row_len ≤ length c.loop-k.out = omega arith in
    let is =
    row.ensures.bytes ∙ ap (λ kept. raw_rows (pipeline_in kept.now) (output_view c.loop-k.self.output.now) c.loop-k.self.steps.row 1) before.job
    ∙ ap (λ kept. raw_rows job (output_view kept.now) c.loop-k.self.steps.row 1) before.output ∙ ap (λ y. raw_rows job o y 1) before.row in
    let long : length row.new.out ≡ self.row_len = omega (arith, ap length is, raw_rows_len job o self.formed (self.steps.row + k) 1, self.wide) in record {
      bytes = rows_more job o self.steps.row k self.row_len _ c.loop-k.out row.new.out before.bytes from long is;
      row = search rules;
      job = row.ensures.job ∙ before.job;
      output = row.ensures.output ∙ before.output;
      totals = c.in_ok-add_streamed_row_to_totals.ensures ∙ before.totals;
      end = row.ensures.end ∙ before.end;
    }
