use Rattle.std.proofs.Common.{◌++◌, length, sym, ap, ◌∙◌}
use Rattle.std.specs.Option.{option_map}
use Rattle.job.specs.Kept.{pipeline_in}
use Rattle.job.specs.Views.{output_view}
use Rattle.streamed_results.specs.StreamedBytes.{rows_bytes}
use Rattle.streamed_results.proofs.ResultIsStreamed.{picture_is, result_is}
use Rattle.streamed_results.proofs.result.prepare_streamed_result.Goals as goal

pub new-requires-clause-output : goal.new-requires-clause-output
new-requires-clause-output g c κs within =
    c.args.job.now.well.output (output_view c.in-Some.output) (sym c.output.ensures ∙ ap (option_map output_view) c.in-Some.is)

pub returns : goal.returns
returns g c =
    let job = pipeline_in c.args.job.now in
    let o = output_view c.in-Some.output in
    let output = sym c.output.ensures ∙ ap (option_map output_view) c.in-Some.is in
    let rows = rw c.in-Some-2.is at c.in_ok-rows.ensures in
    let picture =
    picture_is job o c.in-Some-domain.area c.first_stage.result _ c.max.result c.in_ok-header.header.items (rows_bytes c.in-Some-2.rows) output
    (c.args.job.now.well.output o output) c.first_stage.ensures c.in-Some-domain.ensures (ap length c.stages.ensures) c.max.ensures
    c.in_ok-header.ensures rows in
    result_is job (c.in_ok-header.header.items ++ rows_bytes c.in-Some-2.rows) c.new-2.result.items picture
    (c.new-2.ensures.items ∙ sym (c.has_lines_in_streamed_result.ensures c.if-has_lines_in_streamed_result.false))
