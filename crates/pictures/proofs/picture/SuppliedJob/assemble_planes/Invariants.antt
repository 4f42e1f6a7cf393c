use Rattle.std.proofs.Common.{◌≡◌, ◌++◌, drop, map}
use Rattle.netpbm.specs.MadePlane.{made_samples}
use Rattle.job.specs.Kept.{pipeline_in}
use Rattle.tile_sources.specs.KnownTiles.{given_at}
use Rattle.pictures.specs.Pictures.{samples_from}
use Rattle.pictures.proofs.picture.SuppliedJob.assemble_planes.Given as goal

abbrev pub invariant-loop-stage : goal.invariant-loop-stage
invariant-loop-stage g l =
    made_samples l.planes.items
    ++ map (samples_from (pipeline_in l.fn.self.job.now)
    (given_at (pipeline_in l.fn.self.job.now) (g.K.TileSource.given l.fn.self.known.now)) l.max) (drop l.stage-index l.stages)
    ≡ map (samples_from (pipeline_in l.fn.self.job.now) (given_at (pipeline_in l.fn.self.job.now) (g.K.TileSource.given l.fn.self.known.now))
    l.max) l.stages
