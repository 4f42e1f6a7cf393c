use Rattle.std.proofs.Common.{arith, below_more, slice_index, subst, sym}
use Rattle.std.proofs.lemmas.Grind.{get_or_default_zero}
use Rattle.job.specs.Kept.{pipeline_in}
use Rattle.whole_stages.specs.Known.{IsServed}
use Rattle.whole_stages.proofs.Knowing.{more_serves}
use Rattle.whole_stages.proofs.true_stages.ComputedWholeStages.from_job.Goals as goal

pub loop-stage-preserved : goal.loop-stage-preserved
loop-stage-preserved c = (
  c.in_ok-compute_stage_after_its_reads.ensures.places,
  c.in_ok-compute_stage_after_its_reads.ensures.right,
  below_more (λ k. IsServed (pipeline_in c.args.job.now) c.compute_stage_after_its_reads.new.self.buffers.items (slice_index c.args.stages.now k))
      c.loop-stage.stage-index
      (λ k h. more_serves (pipeline_in c.args.job.now) (slice_index c.args.stages.now k) c.loop-stage.known.buffers.items
      c.compute_stage_after_its_reads.new.self.buffers.items
      c.in_ok-compute_stage_after_its_reads.ensures.more (c.loop-stage.invariant.2 k h))
      c.in_ok-compute_stage_after_its_reads.ensures.served,
)

pub returns-clause-served : goal.returns-clause-served
returns-clause-served c = λ k d h.
    subst (IsServed (pipeline_in c.args.job.now) c.loop-stage.known.buffers.items) (sym (get_or_default_zero c.args.stages.now k d h))
    (c.loop-stage.invariant.2 k (omega (arith, h, c.loop-stage-test.false)))
