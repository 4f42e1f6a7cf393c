use Rattle.std.proofs.Common.{arith}
use Rattle.std.proofs.lemmas.Int.{ints}
use Rattle.operators.specs.Values.{under}
use Rattle.row_plans.proofs.rows_read.RowsRead.from_height.Goals as goal

pub returns : goal.returns
returns c = λ states g r held kept a below. kept.kept held (under r c.args.height a) (omega (arith, ints)) (omega (arith, ints))
