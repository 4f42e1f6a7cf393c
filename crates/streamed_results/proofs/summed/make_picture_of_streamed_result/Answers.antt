use Rattle.std.proofs.Common.{length, sym, ap, ◌∙◌}
use Rattle.std.specs.Option.{option_map}
use Rattle.job.specs.Kept.{pipeline_in}
use Rattle.job.specs.Views.{output_view}
use Rattle.raw_rows.specs.Rows.{raw_rows}
use Rattle.row_streams.specs.StripsMade.{strips_joined}
use Rattle.streamed_results.proofs.ResultIsStreamed.{picture_is, rows_of_area}
use Rattle.streamed_results.proofs.summed.make_picture_of_streamed_result.Goals as goal

pub make_summed_result_strips-requires-clause-output : goal.make_summed_result_strips-requires-clause-output
make_summed_result_strips-requires-clause-output g c κs within =
    c.args.job.now.well.output (output_view c.in-Some.output) (sym c.output.ensures ∙ ap (option_map output_view) c.in-Some.is)

pub returns-clause-picture : goal.returns-clause-picture
returns-clause-picture g c =
    let job = pipeline_in c.args.job.now in
    let o = output_view c.in-Some.output in
    let output = sym c.output.ensures ∙ ap (option_map output_view) c.in-Some.is in
    let height = rows_of_area job o c.in-Some-domain.area c.first_stage.result c.first_stage.ensures c.in-Some-domain.ensures in
    let strips = rw c.in-Some-2.is at c.in_ok-strips.ensures.bytes in
    picture_is job o c.in-Some-domain.area c.first_stage.result _ c.max.result c.in_ok-header.header.items
    (strips_joined c.in-Some-2.strips.items) output (c.args.job.now.well.output o output) c.first_stage.ensures c.in-Some-domain.ensures
    (ap length c.stages.ensures) c.max.ensures c.in_ok-header.ensures (strips ∙ ap (raw_rows job o 0) height)
