use Rattle.std.proofs.Common.{arith, refl, sym}
use Rattle.std.proofs.lemmas.Int.{ints}
use Rattle.row_plans.proofs.Taking.{reaching_keeps}
use Rattle.row_plans.proofs.rows_read.RowsRead.join_rows_read.Goals as goal

pub returns : goal.returns
returns c = λ states g r kept.
    let same = c.has_same_middle_rows_read.ensures c.if-not-has_same_middle_rows_read.false in (
      reaching_keeps states g r _ c.args.self.now refl refl refl (omega (arith, ints)) (omega (arith, ints)) kept,
      reaching_keeps states g r _ c.args.other.now (sym same.0) (sym same.1) (sym same.2) (omega (arith, ints)) (omega (arith, ints)) kept,
    )
