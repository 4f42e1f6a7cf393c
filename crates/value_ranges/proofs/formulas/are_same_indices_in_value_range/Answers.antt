use Rattle.std.proofs.Common.{sym, ◌∙◌}
use Rattle.value_ranges.proofs.Composing.{same_index}
use Rattle.value_ranges.proofs.formulas.are_same_indices_in_value_range.Goals as goal

pub returns : goal.returns
returns c = λ same. same_index c.args.first.now c.args.second.now (sym c.eq.ensures ∙ same)
