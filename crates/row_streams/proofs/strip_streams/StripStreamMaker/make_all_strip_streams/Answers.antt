use Rattle.std.proofs.Common.{◌≡◌, ap, ◌∙◌}
use Rattle.std.specs.Int.{div_ceil}
use Rattle.job.specs.Kept.{pipeline_in}
use Rattle.job.specs.Views.{output_view}
use Rattle.raw_rows.specs.Rows.{raw_rows}
use Rattle.row_streams.specs.Strips.{row_count, strip_bytes}
use Rattle.row_streams.specs.declared.strip_streams.StripStream.{StripStream}
use denote.Param.Send.{sendable}
use Rattle.std.proofs.Crossing as owners
use Rattle.row_streams.proofs.Crossing.{strip_send}
use Rattle.row_streams.proofs.MadeInOrder.{collected_all, collected_bytes}
use Rattle.row_streams.proofs.StripsAreRows.{strips_are_rows}
use Rattle.row_streams.proofs.strip_streams.StripStreamMaker.make_all_strip_streams.Goals as goal

pub map-requires-send-U : goal.map-requires-send-U
map-requires-send-U g c κs within = search (strip_send, sendable, owners.crosses) depth 40

pub collect-requires-send-Self-Item : goal.collect-requires-send-Self-Item
collect-requires-send-Self-Item g c κs within = search (strip_send, sendable, owners.crosses) depth 40

pub collect-requires-send-C : goal.collect-requires-send-C
collect-requires-send-C g c κs within = search (strip_send, sendable, owners.crosses) depth 40

pub returns-clause-bytes : goal.returns-clause-bytes
returns-clause-bytes g c =
    let ends = c.into_par_iter.ensures in
    let self = c.args.self.now in
    let job = pipeline_in self.job.now in
    let o = output_view self.output.now in
    let made = c.in_ok-collect.ensures.1 in
    let count = c.count_row_strips.ensures ∙ ap (λ n. div_ceil n self.strips.len) self.high in
    let places = rw (c.map.ensures.base, c.with_min_len.ensures.base, ends.0, ends.1, count) at made.1 in
    collected_bytes (λ (strip : StripStream). strip.bytes.items) (strip_bytes job o self.strips.len) _ (div_ceil (row_count job o) self.strips.len)
    (raw_rows job o 0 (row_count job o)) c.in_ok-collect.ensures.0 c.in_ok-collect.field-0
    (λ number strip it. it.bytes
    ∙ ap (λ held. strip_bytes (pipeline_in held.0.now.job.now) (output_view held.0.now.output.now) held.0.now.strips.len number) c.map.ensures.f)
    (strips_are_rows job o self.strips.len self.strips.some) made.0 places made.2 c.in_ok-collect.ensures.2

pub returns-clause-totals : goal.returns-clause-totals
returns-clause-totals g c =
    let self = c.args.self.now in
    let made = c.in_ok-collect.ensures.1 in
    collected_all _ (λ (strip : StripStream). strip.totals.job.now ≡ self.job.now) made.0 c.in_ok-collect.ensures.0 c.in_ok-collect.field-0
    (λ number strip it. it.totals ∙ ap (λ held. held.0.now.job.now) c.map.ensures.f) made.2 c.in_ok-collect.ensures.2
