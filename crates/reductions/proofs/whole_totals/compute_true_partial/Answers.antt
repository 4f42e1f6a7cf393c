use Rattle.std.proofs.Common.{sym, subst}
use Rattle.job.specs.Kept.{pipeline_in}
use Rattle.reductions.specs.TruePartials.{IsAccumulatorTile}
use Rattle.reductions.proofs.whole_totals.compute_true_partial.Goals as goal

pub returns-in-None-clause-none : goal.returns-in-None-clause-none
returns-in-None-clause-none c = λ bins is.
    c.in-None.ensures.none is.area
    (subst (λ j. IsAccumulatorTile (pipeline_in j) c.args.stage c.args.row c.args.col is.area) (sym c.job.ensures) is.tile)
