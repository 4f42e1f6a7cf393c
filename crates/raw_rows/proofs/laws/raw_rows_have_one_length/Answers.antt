use Rattle.raw_rows.proofs.RowLaws.{raw_row_len, raw_rows_len}
use Rattle.raw_rows.proofs.laws.raw_rows_have_one_length.Goals as goal

pub returns-clause-one : goal.returns-clause-one
returns-clause-one c = λ job o y is. raw_row_len job o is y

pub returns-clause-all : goal.returns-clause-all
returns-clause-all c = λ job o y n is. raw_rows_len job o is y n
