use Rattle.std.proofs.Common.{arith, sym, subst}
use Rattle.job.specs.Kept.{pipeline_in}
use Rattle.whole_stages.specs.Known.{IsServed}
use Rattle.reductions.proofs.whole_totals.whole.Goals as goal

pub compute_true_area_totals-requires-clause-served : goal.compute_true_area_totals-requires-clause-served
compute_true_area_totals-requires-clause-served c =
    subst (λ j. IsServed (pipeline_in j) c.in_ok-stages.stages.known.buffers.items c.args.stage) (sym c.in_ok-stages.ensures.job)
    (c.in_ok-stages.ensures.served 0 0 (omega arith))
