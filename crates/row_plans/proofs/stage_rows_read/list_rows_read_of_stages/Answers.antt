use Rattle.std.proofs.Common.{arith}
use Rattle.row_plans.proofs.Growing.{stages_more, covered_more}
use Rattle.row_plans.proofs.stage_rows_read.list_rows_read_of_stages.Goals as goal

pub loop-stage-preserved : goal.loop-stage-preserved
loop-stage-preserved c =
    let same = rw c.in-Some.is at c.in_ok-read.ensures.stage in (
      stages_more _ _ c.in-Some.read _ c.loop-stage.stage-index c.stage-item.result c.in_ok-push-in-Some.ensures.items c.loop-stage.invariant.0 (omega arith) c.stage-item.is same,
      covered_more _ _ c.in-Some.read c.in_ok-push-in-Some.ensures.items c.loop-stage.invariant.1 (rw same (rw c.in-Some.is at c.in_ok-read.ensures.covered)),
    )
