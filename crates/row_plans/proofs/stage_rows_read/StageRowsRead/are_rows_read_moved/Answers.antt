use Rattle.std.proofs.Common.{arith}
use Rattle.std.proofs.lemmas.List.{take_all}
use Rattle.row_plans.specs.Moved.{IsReadMoved}
use Rattle.row_plans.proofs.Growing.{all_more_at}
use Rattle.row_plans.proofs.stage_rows_read.StageRowsRead.are_rows_read_moved.Goals as goal

pub loop-read-preserved : goal.loop-read-preserved
loop-read-preserved c = λ states d moved.
    all_more_at (IsReadMoved d states c.args.stage) c.args.self.now.reads.items c.loop-read.read-index c.read-item.result (omega arith)
    (rw c.deref-read-items.ensures.value at c.read-item.is) (c.loop-read.invariant states d moved)
    (c.are_rows_read_moved.ensures c.if-not-are_rows_read_moved.false states d moved)

pub returns : goal.returns
returns c = λ _ states d moved.
    rw (take_all c.loop-read.read-index c.args.self.now.reads.items (omega arith)) at (c.loop-read.invariant states d moved)
