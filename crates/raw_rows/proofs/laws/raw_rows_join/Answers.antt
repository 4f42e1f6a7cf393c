use Rattle.raw_rows.proofs.RowLaws.{raw_rows_joined}
use Rattle.raw_rows.proofs.laws.raw_rows_join.Goals as goal

pub returns : goal.returns
returns c = raw_rows_joined
