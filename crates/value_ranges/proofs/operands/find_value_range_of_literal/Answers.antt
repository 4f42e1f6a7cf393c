use Rattle.operators.proofs.Fitting.{literal_fits}
use Rattle.value_ranges.proofs.Ends.{in_full}
use Rattle.value_ranges.proofs.operands.find_value_range_of_literal.Goals as goal

pub returns-in-Rem : goal.returns-in-Rem
returns-in-Rem c = λ v is fits a. in_full c.full_value_range.result _ c.full_value_range.ensures (literal_fits c.args.op v c.args.n is fits)
