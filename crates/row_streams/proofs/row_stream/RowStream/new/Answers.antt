use Rattle.std.proofs.Common.{◌≡◌, ◌*◌, Option, Some, None, length, slice_get, sym, ap, ◌∙◌}
use Rattle.std.specs.Prelude.{slice_index}
use Rattle.std.specs.Option.{option_map, option_map_or}
use Rattle.std.proofs.lemmas.Option.{same_Some}
use Rattle.domains.specs.Span.{len_of}
use Rattle.domains.specs.declared.area.Area.{Area}
use Rattle.job.specs.Answers as Answers
use Rattle.job.specs.Kept.{pipeline_in}
use Rattle.job.specs.Pipeline.{Stage}
use Rattle.job.specs.Views.{output_view}
use Rattle.netpbm.specs.Raw.{width_of}
use Rattle.raw_rows.specs.Rows.{bytes_per_row}
use Rattle.row_streams.proofs.row_stream.RowStream.new.Goals as goal

width_found : (found : Option Stage) (area : Area) → option_map (λ s. s.domain) found ≡ Some area
    → len_of area.cols ≡ option_map_or (λ s. len_of s.domain.cols) found 0
width_found None area is = cc
width_found (Some s) area is = ap (λ (a : Area). len_of a.cols) (sym (same_Some s.domain area is))

pub invariant_of-result-clause-planes : goal.invariant_of-result-clause-planes
invariant_of-result-clause-planes c = (rw c.in-Some-2.is at c.in_ok-steps.ensures.outputs) ∙ c.stages-outputs.ensures

pub invariant_of-result-clause-wide : goal.invariant_of-result-clause-wide
invariant_of-result-clause-wide c =
    let job = pipeline_in c.args.job.now in
    let o = output_view c.args.output.now in
    let cols : c.len.result ≡ Answers.width_of job (slice_index o.stages 0) =
    c.len.ensures.number
    ∙ width_found (slice_get job.stages c.first_stage.result) c.in-Some.area (sym c.domain.ensures ∙ c.in-Some.is)
    ∙ ap (Answers.width_of job) c.first_stage.ensures in
    let same : c.in-Some-2.steps.job.now ≡ c.args.job.now = rw c.in-Some-2.is at c.in_ok-steps.ensures.job in
    c.count_raw_row_bytes-row_len.ensures ∙ (λ i. width_of (c.max.ensures i) * (length (c.stages.ensures i) * cols i))
    ∙ ap (λ kept. bytes_per_row (pipeline_in kept) o) (sym same)
