use Rattle.std.proofs.Common.{arith, ◌*ℤ◌, ◌≡◌, to_z, of_z, w64, refl}
use Rattle.std.proofs.lemmas.Int.{to_z-of_z}
use Rattle.value_ranges.proofs.Ends.{products_between, between_same}
use Rattle.value_ranges.proofs.operands.find_value_range_product_ends.Goals as goal

pub returns : goal.returns
returns c =
    let first : to_z w64 (of_z w64 c.multiply_value_range_ends-first.result) ≡ c.args.a.lo *ℤ c.args.b.lo = grind (arith, to_z-of_z, c.multiply_value_range_ends-first.ensures) in
    let second : to_z w64 (of_z w64 c.multiply_value_range_ends-second.result) ≡ c.args.a.lo *ℤ c.args.b.hi = grind (arith, to_z-of_z, c.multiply_value_range_ends-second.ensures) in
    let third : to_z w64 (of_z w64 c.multiply_value_range_ends-third.result) ≡ c.args.a.hi *ℤ c.args.b.lo = grind (arith, to_z-of_z, c.multiply_value_range_ends-third.ensures) in
    let fourth : to_z w64 (of_z w64 c.multiply_value_range_ends-fourth.result) ≡ c.args.a.hi *ℤ c.args.b.hi = grind (arith, to_z-of_z, c.multiply_value_range_ends-fourth.ensures) in
    let low : to_z w64 (of_z w64 c.find_least_value_range_end-least.result) ≡ c.find_least_value_range_end-least.result = grind (arith, to_z-of_z) in
    let high : to_z w64 (of_z w64 c.find_greatest_value_range_end-greatest.result) ≡ c.find_greatest_value_range_end-greatest.result = grind (arith, to_z-of_z) in
    let least = c.find_least_value_range_end-least.ensures in
    let greatest = c.find_greatest_value_range_end-greatest.ensures in
    λ v w x y. between_same _ _ _ _ _ _
    (products_between c.args.a c.args.b _ _ _ _ _ _ first second third fourth least.first least.second least.third least.fourth
    greatest.first greatest.second greatest.third greatest.fourth v w x y)
    low high refl
