use Rattle.std.proofs.Common.{refl}
use Rattle.value_ranges.proofs.Composing.{same_read}
use Rattle.value_ranges.proofs.formulas.are_same_read_in_value_range.Goals as goal

pub returns : goal.returns
returns c = λ same.
    same_read c.in-Read.stage c.in-Read-second.other _ _ _ _ c.args.first.now c.args.second.now c.in-Read.is c.in-Read-second.is
    c.if-stage-other.false (c.if-not-are_same_indices_in_value_range.ensures refl) (c.are_same_indices_in_value_range-2.ensures same)
