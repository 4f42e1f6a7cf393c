use Rattle.std.proofs.Common.{rules, arith, ◌≡◌, ◌-◌, ◌++◌, length, take, drop, sym, ap, ◌∙◌}
use Rattle.std.proofs.Math.Seq.{take-append_seam}
use Rattle.job.specs.Kept.{pipeline_in}
use Rattle.job.specs.Views.{output_view}
use Rattle.raw_rows.specs.Rows.{raw_rows}
use Rattle.row_streams.specs.Strips.{row_count, strip_end, strip_start}
use Rattle.row_streams.proofs.strip_streams.StripStreamMaker.make_strip_stream.Goals as goal

pub returns : goal.returns
returns c =
    let self = c.args.self.now in
    let height = row_count (pipeline_in self.job.now) (output_view self.output.now) in
    let stream = c.in-Some.stream in
    let out = c.encode_next_streamed_rows_with_totals.new.out in
    let long : length out ≡ c.in_ok-bytes.bytes.len = omega (arith, c.encode_next_streamed_rows_with_totals.auto.out, c.deref_mut.ensures.len) in
    let job : stream.steps.job.now ≡ self.job.now = search rules in
    let output : stream.output.now ≡ self.output.now = search rules in
    let len = self.strips.len in
    let first : c.find_row_strip_start-first.result ≡ strip_start height len c.args.number =
    c.find_row_strip_start-first.ensures ∙ ap (λ n. strip_start n len c.args.number) self.high in
    let end : c.find_row_strip_end-end.result ≡ strip_end height len c.args.number =
    c.find_row_strip_end-end.ensures ∙ ap (λ n. strip_end n len c.args.number) self.high in
    let row : stream.steps.row ≡ c.find_row_strip_start-first.result = search rules in
    let bytes =
    ap (λ n. take n (out ++ drop (length out) c.in_ok-bytes.bytes.items)) (sym long)
    ∙ take-append_seam out (drop (length out) c.in_ok-bytes.bytes.items)
    ∙ c.in_ok-encode_next_streamed_rows_with_totals.ensures.bytes
    ∙ (λ i. raw_rows (pipeline_in (job i)) (output_view (output i)) ((row ∙ first) i) (end i - first i)) in record {
      bytes = bytes;
      totals = ap (λ kept. kept.now) c.encode_next_streamed_rows_with_totals.ensures.totals ∙ c.in_ok-totals.ensures.job;
    }
