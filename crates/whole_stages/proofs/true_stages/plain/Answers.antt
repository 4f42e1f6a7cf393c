use Rattle.std.proofs.Common.{arith, sym, subst}
use Rattle.job.specs.Kept.{pipeline_in}
use Rattle.whole_stages.specs.Known.{IsServed}
use Rattle.whole_stages.proofs.true_stages.plain.Goals as goal

pub into_stage_values-requires : goal.into_stage_values-requires
into_stage_values-requires c =
    subst (λ j. IsServed (pipeline_in j) c.in_ok-from_job.field-0.known.buffers.items c.args.stage) (sym c.in_ok-from_job.ensures.job)
    (c.in_ok-from_job.ensures.served 0 0 (omega arith))
