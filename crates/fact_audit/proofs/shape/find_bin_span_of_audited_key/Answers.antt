use Rattle.std.proofs.Common.{ℕ, ap, sym, subst, ◌∙◌, slice_get}
use Rattle.std.specs.Prelude.{IfSome}
use Rattle.reductions.specs.TruePartials.{IsAccumulatorTile}
use Rattle.job.specs.Kept.{pipeline_in}
use Rattle.job.specs.Readers.{stage_bins}
use Rattle.fact_audit.specs.Shapes.{HasBins}
use Rattle.fact_audit.proofs.OneTile.{bins_some, bins_none}
use Rattle.fact_audit.proofs.shape.find_bin_span_of_audited_key.Goals as goal

pub returns-in-Some-clause-some : goal.returns-in-Some-clause-some
returns-in-Some-clause-some c =
    let job = pipeline_in c.args.job.now in
    let key = c.args.key.now in
    subst (λ (g : ℕ). IfSome c.bins.result (HasBins job g key.row key.col)) c.from-stage.ensures
    (bins_some job c.from-stage.result key.row key.col _ c.bins.result c.in-Some.ensures.some c.bins.ensures)

pub returns-in-Some-clause-none : goal.returns-in-Some-clause-none
returns-in-Some-clause-none c =
    let job = pipeline_in c.args.job.now in
    bins_none job c.args.key.now.stage c.args.key.now.row c.args.key.now.col c.bins.result
    (c.bins.ensures ∙ ap (λ (g : ℕ). stage_bins (slice_get job.stages g)) c.from-stage.ensures)

pub returns-in-None-clause-none : goal.returns-in-None-clause-none
returns-in-None-clause-none c =
    let job = pipeline_in c.args.job.now in
    let key = c.args.key.now in
    λ ends p. c.in-None.ensures.none p.area
    (subst (λ (g : ℕ). IsAccumulatorTile job g key.row key.col p.area) (sym c.from-stage.ensures) p.tile)
