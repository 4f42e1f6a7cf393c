use Rattle.raw_rows.proofs.RowLaws.{raw_row_of_colours, raw_row_of_grey}
use Rattle.raw_rows.proofs.laws.raw_row_is_that_of_its_lines.Goals as goal

pub returns-clause-grey : goal.returns-clause-grey
returns-clause-grey c = raw_row_of_grey

pub returns-clause-colour : goal.returns-clause-colour
returns-clause-colour c = raw_row_of_colours
