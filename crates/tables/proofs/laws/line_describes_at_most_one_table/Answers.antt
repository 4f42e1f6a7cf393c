use Rattle.tables.proofs.LineLaws.{line_describes_at_most_one_table}
use Rattle.tables.proofs.laws.line_describes_at_most_one_table.Goals as goal

pub returns : goal.returns
returns c = λ line s t a b. line_describes_at_most_one_table line s t a b
