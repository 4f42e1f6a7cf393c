use Rattle.std.proofs.Common.{ap, sym, subst, ◌∙◌}
use Rattle.std.proofs.lemmas.Bool.{false≢true}
use Rattle.std.specs.Prelude.{slice_index}
use Rattle.netpbm.specs.Image.{IsImage}
use Rattle.netpbm.specs.MadePlane.{made_samples}
use Rattle.job.specs.Answers.{height_of, width_of}
use Rattle.job.specs.Kept.{pipeline_in}
use Rattle.job.specs.Views.{output_view}
use Rattle.pictures.proofs.PictureOfAnswer.{same_picture}
use Rattle.pictures.proofs.picture.build_picture_from_output_planes.Goals as goal

pub unreachable-requires : goal.unreachable-requires
unreachable-requires c =
    let job = pipeline_in c.args.job.now in
    let rows = c.count_rows_of_output_plane-rows.ensures ∙ ap (λ s. height_of job (slice_index s 0)) c.stages.ensures in
    let cols = c.count_columns_of_output_plane-cols.ensures ∙ ap (λ s. width_of job (slice_index s 0)) c.stages.ensures in
    let same = same_picture job (output_view c.args.output.now) c.count_rows_of_output_plane-rows.result c.count_columns_of_output_plane-cols.result c.max.result
    (made_samples c.args.planes.items) rows cols c.max.ensures in
    false≢true (c.in-Err.ensures.exact.1 (subst IsImage (sym same) c.requires.image))

pub returns-clause-picture : goal.returns-clause-picture
returns-clause-picture c =
    let job = pipeline_in c.args.job.now in
    let rows = c.count_rows_of_output_plane-rows.ensures ∙ ap (λ s. height_of job (slice_index s 0)) c.stages.ensures in
    let cols = c.count_columns_of_output_plane-cols.ensures ∙ ap (λ s. width_of job (slice_index s 0)) c.stages.ensures in
    c.in-Ok.ensures.ok
    ∙ same_picture job (output_view c.args.output.now) c.count_rows_of_output_plane-rows.result c.count_columns_of_output_plane-cols.result c.max.result
    (made_samples c.args.planes.items) rows cols c.max.ensures
