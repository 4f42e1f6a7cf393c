use Rattle.std.proofs.Common.{ℕ, ◌≡◌, List, sym, subst, ◌∙◌}
use Rattle.std.specs.Result.{IfOk}
use Rattle.netpbm.specs.MadePlane.{MadePlane, made}
use Rattle.job.specs.Kept.{pipeline_in}
use Rattle.tile_sources.specs.KnownTiles.{given_at}
use Rattle.pictures.proofs.PlanesRowByRow.{plane_is, some_domain}
use Rattle.pictures.proofs.picture.SuppliedJob.assemble_plane.Goals as goal

pub unreachable-requires : goal.unreachable-requires
unreachable-requires g c =
    some_domain (pipeline_in c.args.self.now.job.now) (g.K.TileSource.given c.args.self.now.known.now) c.args.stage c.requires.stored
    (sym c.domain.ensures ∙ c.in-None.is)

pub returns : goal.returns
returns g c =
    subst (λ (xs : List ℕ). IfOk c.assemble_plane_of_domain.result (λ (plane : MadePlane). plane ≡ made c.args.max xs))
    (plane_is (pipeline_in c.args.self.now.job.now) (g.K.TileSource.given c.args.self.now.known.now) c.args.stage c.in-Some.domain
    c.requires.stored
    (sym c.domain.ensures ∙ c.in-Some.is) (given_at (pipeline_in c.args.self.now.job.now) (g.K.TileSource.given c.args.self.now.known.now))
    c.args.max)
    c.assemble_plane_of_domain.ensures
