use Rattle.std.proofs.lemmas.Result.{IfOk-weaker}
use Rattle.whole_stages.proofs.Sampling.{plane_raster}
use Rattle.whole_stages.proofs.planes.convert_whole_plane_of_picture.Goals as goal

pub returns : goal.returns
returns c = IfOk-weaker c.convert_samples_of_whole_plane.result _ _ (λ values h. plane_raster c.args.picture.now c.args.plane c.samples.result values.items
    c.samples.ensures.image c.requires c.samples.ensures.samples h.0 h.1) c.convert_samples_of_whole_plane.ensures
