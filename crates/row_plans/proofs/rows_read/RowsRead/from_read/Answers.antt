use Rattle.std.proofs.Common.{◌≡◌, length, ap, arith}
use Rattle.std.proofs.lemmas.Option.{IfSome_then}
use Rattle.row_plans.proofs.rows_read.RowsRead.from_read.Goals as goal

pub returns-in-Point : goal.returns-in-Point
returns-in-Point c = λ states g r col held kept. rw c.in-Point.is (c.from_index.ensures states g r held kept)

pub returns-in-Window : goal.returns-in-Window
returns-in-Window c =
    let same : length c.as_slice.result.now ≡ length c.in-Window.kernel = ap length c.as_slice.ensures in
    rw c.in-Window.is (IfSome_then c.from_height.result c.from_height.ensures
    (λ x h. λ states g r col held kept a b in_rows in_cols. rw (← same) (h states g r held kept a (omega arith))))
