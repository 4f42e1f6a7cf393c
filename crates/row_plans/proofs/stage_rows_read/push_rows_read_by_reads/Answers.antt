use Rattle.std.proofs.Common.{arith}
use Rattle.row_plans.proofs.Growing.{reads_more}
use Rattle.row_plans.proofs.stage_rows_read.push_rows_read_by_reads.Goals as goal

pub loop-read-preserved : goal.loop-read-preserved
loop-read-preserved c =
    reads_more _ _ _ _ c.args.reads.now c.loop-read.read-index c.read-item.result c.in-Some.taken c.loop-read.invariant (omega arith) c.read-item.is
    c.in_ok-push_or_join_rows_read-in-Some.ensures.wider c.in_ok-push_or_join_rows_read-in-Some.ensures.taken c.in-Some.ensures
