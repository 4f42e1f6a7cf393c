use Rattle.std.proofs.Common.{arith, ◌*ℤ◌}
use Rattle.std.proofs.lemmas.Int.{ints}
use Rattle.value_ranges.proofs.operands.find_value_range_of_product.Goals as goal

pub returns : goal.returns
returns c = λ v w a b.
    let ends = c.find_value_range_product_ends-lo.ensures v w a b in
    let low = ends.low in let high = ends.high in
    c.wrap_value_range.ensures (v *ℤ w) (omega (arith, ints)) (omega (arith, ints))
