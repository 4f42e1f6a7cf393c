use Rattle.std.proofs.Common.{◌∙◌}
use Rattle.job.specs.Kept.{pipeline_in}
use Rattle.tile_run.specs.Stored.{stored_tiles}
use Rattle.tile_run.proofs.NeedsAreHeld.{needs_all}
use Rattle.pictures.proofs.PictureOfAnswer.{outputs_lent}
use Rattle.tile_sources.proofs.GivenLines.{whole}
use Rattle.pictures.proofs.TrueImage.{image_true}
use Rattle.accumulators.proofs.answer.compute_answer_from_function_tiles.Goals as goal

pub assemble_image-requires : goal.assemble_image-requires
assemble_image-requires g c =
    let job = pipeline_in c.args.job.now in
    let given = stored_tiles c.args.stored.now.stages.items in
    outputs_lent job c.args.schedule.now.inlining given c.args.job.now.well c.requires.schedule.inlining c.requires.all
    (whole job given c.requires.values)

pub compute_totals-requires-clause-computed : goal.compute_totals-requires-clause-computed
compute_totals-requires-clause-computed g c κs within =
    let job = pipeline_in c.args.job.now in
    let given = stored_tiles c.args.stored.now.stages.items in
    record {
      scheduled = c.requires.schedule;
      needs = λ k is. needs_all job c.args.schedule.now.inlining given k c.args.job.now.well c.requires.all;
      values = c.requires.values;
    }

pub returns-clause-answer : goal.returns-clause-answer
returns-clause-answer g c =
    let job = pipeline_in c.args.job.now in
    let given = stored_tiles c.args.stored.now.stages.items in
    record {
      picture = c.in_ok-picture.ensures.answer
          ∙ image_true job given c.args.job.now.well c.requires.values
          (outputs_lent job c.args.schedule.now.inlining given c.args.job.now.well c.requires.schedule.inlining c.requires.all
          (whole job given c.requires.values));
      totals = c.in_ok-totals.ensures;
    }
