use Rattle.std.proofs.Common.{ℕ, sym, subst}
use Rattle.job.specs.Kept.{pipeline_in}
use Rattle.tile_eval.specs.Raster.{IsFunctionTile}
use Rattle.fact_audit.proofs.OneTile.{never}
use Rattle.fact_audit.proofs.shape.has_audited_sample_for_each_point.Goals as goal

pub returns-in-None : goal.returns-in-None
returns-in-None c =
    let job = pipeline_in c.args.job.now in
    let key = c.args.key.now in
    never (λ p. c.in-None.ensures.none p.area
    (subst (λ (g : ℕ). IsFunctionTile job g key.row key.col p.area) (sym c.from.ensures) p.tile))
