use Rattle.value_ranges.proofs.Ends.{wrapped_in_full}
use Rattle.value_ranges.proofs.value_range.wrap_value_range.Goals as goal

pub returns-then-lo-ltminus2147483648 : goal.returns-then-lo-ltminus2147483648
returns-then-lo-ltminus2147483648 c = λ v low high. wrapped_in_full c.full_value_range.result v c.full_value_range.ensures
