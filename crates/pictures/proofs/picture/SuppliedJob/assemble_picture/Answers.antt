use Rattle.std.proofs.Common.{ap, map, ◌∙◌}
use Rattle.netpbm.specs.MadePlane.{made_samples}
use Rattle.job.specs.Kept.{pipeline_in}
use Rattle.job.specs.Views.{output_view}
use Rattle.tile_sources.specs.KnownTiles.{given_at}
use Rattle.pictures.specs.Pictures.{picture_with, samples_from}
use Rattle.pictures.proofs.PictureOfAnswer.{planes_picture}
use Rattle.pictures.proofs.picture.SuppliedJob.assemble_picture.Goals as goal

pub build_picture_from_output_planes-requires-clause-image : goal.build_picture_from_output_planes-requires-clause-image
build_picture_from_output_planes-requires-clause-image g c =
    let job = pipeline_in c.args.self.now.job.now in
    let env = given_at job (g.K.TileSource.given c.args.self.now.known.now) in
    planes_picture job env (output_view c.args.output.now) (made_samples c.in_ok-planes.planes.items) c.requires.output
    (c.in_ok-planes.ensures ∙ (λ i. map (samples_from job env (c.max.ensures i)) (c.stages.ensures i)))

pub returns-clause-answer : goal.returns-clause-answer
returns-clause-answer g c =
    let job = pipeline_in c.args.self.now.job.now in
    let env = given_at job (g.K.TileSource.given c.args.self.now.known.now) in
    c.build_picture_from_output_planes.ensures.picture
    ∙ ap (picture_with job (output_view c.args.output.now))
    (c.in_ok-planes.ensures ∙ (λ i. map (samples_from job env (c.max.ensures i)) (c.stages.ensures i)))
