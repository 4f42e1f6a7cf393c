use Rattle.job.specs.Kept.{pipeline_in}
use Rattle.pictures.proofs.PlanesRowByRow.{domain_given}
use Rattle.pictures.proofs.picture.SuppliedJob.assemble_plane_of_domain.Goals as goal

pub push_area_samples-requires : goal.push_area_samples-requires
push_area_samples-requires g c =
    domain_given (pipeline_in c.args.self.now.job.now) (g.K.TileSource.given c.args.self.now.known.now) c.args.stage c.args.domain.now
    c.requires.stored c.requires.domain c.args.self.now.job.now.well
