use Rattle.std.proofs.Common.{◌≡◌, ◌<◌, ◌≤◌, ◌+◌, ◌*◌, length, sym, ap, subst, ◌∙◌, arith, rules}
use Rattle.std.specs.Prelude.{All}
use Rattle.std.proofs.lemmas.List.{append-nil}
use Rattle.job.specs.Kept.{pipeline_in}
use Rattle.job.specs.Views.{output_view}
use Rattle.netpbm.specs.Raw.{raw_raster}
use Rattle.raw_rows.specs.Lines.{line_samples}
use Rattle.raw_rows.specs.Rows.{raw_row}
use Rattle.raw_rows.proofs.RowLaws.{raw_row_len}
use Rattle.row_plans.specs.Plans.{IsOutputKept}
use Rattle.row_rings.specs.Rings.{states_in}
use Rattle.row_streams.proofs.Lines.{line_within, rows_more}
use Rattle.row_streams.proofs.Steps.{from_output}
use Rattle.row_streams.proofs.row_stream.RowStream.encode_next_streamed_rows.Goals as goal

pub borrow_streamed_row_lines-lines-requires : goal.borrow_streamed_row_lines-lines-requires
borrow_streamed_row_lines-lines-requires c =
    let made = c.make_rows_before_next_streamed_row in
    let steps = made.new.self in
    let lt : steps.row < steps.end = omega arith in
    subst (All (IsOutputKept (pipeline_in steps.job.now) (states_in steps.rings) steps.row)) (ap (λ held. held.now) made.ensures.outputs ∙ c.loop-k.self.planes)
    (from_output (pipeline_in steps.job.now) steps.outputs.now steps.end steps.row (states_in steps.rings) steps.steps.items steps.at lt
    made.ensures.next steps.runnable).1

pub overflow_add-from : goal.overflow_add-from
overflow_add-from c =
    let self = c.args.self.now in
    let all : length c.loop-k.out ≡ c.args.count * self.row_len =
    c.loop-k.auto.out ∙ c.requires.len ∙ ap (λ n. c.args.count * n) (sym self.wide) in
    let within = line_within c.loop-k.k c.args.count self.row_len (length c.loop-k.out) (search rules) all in
    search rules

pub slice_bounds-encode_raw_row-end : goal.slice_bounds-encode_raw_row-end
slice_bounds-encode_raw_row-end c =
    let self = c.args.self.now in
    let all : length c.loop-k.out ≡ c.args.count * self.row_len =
    c.loop-k.auto.out ∙ c.requires.len ∙ ap (λ n. c.args.count * n) (sym self.wide) in
    let within = line_within c.loop-k.k c.args.count self.row_len (length c.loop-k.out) (search rules) all in
    search rules

pub loop-k-preserved : goal.loop-k-preserved
loop-k-preserved c =
    let self = c.args.self.now in
    let job = pipeline_in self.steps.job.now in
    let o = output_view self.output.now in
    let k = c.loop-k.k in
    let before = c.loop-k.invariant in
    let made = c.make_rows_before_next_streamed_row.ensures in
    let passed = c.pass_next_streamed_row.ensures in
    let row = c.encode_raw_row in
    let all : length c.loop-k.out ≡ c.args.count * self.row_len =
    c.loop-k.auto.out ∙ c.requires.len ∙ ap (λ n. c.args.count * n) (sym self.wide) in
    let within = line_within k c.args.count self.row_len (length c.loop-k.out) (search rules) all in
    let from : k * self.row_len ≤ length c.loop-k.out = omega arith in
    let is =
    row.ensures ∙ ap (λ m. raw_raster m (line_samples m c.borrow_streamed_row_lines-lines.result)) c.max.ensures
    ∙ c.borrow_streamed_row_lines-lines.ensures.bytes
    ∙ (λ i. raw_row (pipeline_in ((made.job ∙ before.job) i).now) (output_view (before.output i).now) ((made.row ∙ before.row) i)) in
    let long : length row.new.out ≡ self.row_len = ap length is ∙ raw_row_len job o self.formed (self.steps.row + k) ∙ sym self.wide in record {
      bytes =
          rows_more job o self.steps.row k self.row_len _ c.loop-k.out row.new.out before.bytes from long
          (is ∙ sym (append-nil (raw_row job o (self.steps.row + k))));
      row = omega (arith, passed.row, made.row, before.row);
      job = passed.job ∙ made.job ∙ before.job;
      output = before.output;
      end = passed.end ∙ made.end ∙ before.end;
    }
