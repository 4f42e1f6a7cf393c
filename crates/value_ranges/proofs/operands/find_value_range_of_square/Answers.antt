use Rattle.std.proofs.Common.{arith, ◌*ℤ◌}
use Rattle.std.proofs.lemmas.Int.{ints, clamps}
use Rattle.value_ranges.proofs.Ends.{square_above}
use Rattle.value_ranges.proofs.operands.find_value_range_of_square.Goals as goal

pub returns : goal.returns
returns c = λ v a.
    let ends = c.find_value_range_product_ends-lo.ensures v v a a in
    let low = ends.low in let high = ends.high in
    let above = square_above v in
    c.wrap_value_range.ensures (v *ℤ v) (omega (arith, ints, clamps)) (omega (arith, ints, clamps))
