use Rattle.std.proofs.Common.{◌≡◌, arith, w32, to_z, of_z}
use Rattle.std.proofs.lemmas.Int.{ints}
use Rattle.std.proofs.lemmas.List.{take_all}
use Rattle.row_plans.specs.Taken.{AreTakenKept}
use Rattle.row_plans.proofs.Growing.{all_more_at}
use Rattle.row_plans.proofs.stage_rows_read.StageRowsRead.are_rows_read_kept.Goals as goal

pub loop-read-preserved : goal.loop-read-preserved
loop-read-preserved c = λ states are.
    all_more_at (AreTakenKept states c.args.stage _) c.args.self.now.reads.items c.loop-read.read-index c.read-item.result (omega arith)
    (rw c.deref-read-items.ensures.value at c.read-item.is) (c.loop-read.invariant states are)
    (c.are_rows_read_kept.ensures c.if-not-are_rows_read_kept.false states are)

pub returns : goal.returns
returns c = λ _ states are.
    let same : to_z w32 (of_z w32 c.args.row) ≡ c.args.row = omega (arith, ints) in
    rw (take_all c.loop-read.read-index c.args.self.now.reads.items (omega arith)) at (rw same at (c.loop-read.invariant states are))
