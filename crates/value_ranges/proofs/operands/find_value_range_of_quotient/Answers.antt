use Rattle.std.proofs.Common.{arith, pos, ◌<ℤ◌, ◌≡◌, to_z, of_z, w32}
use Rattle.std.proofs.lemmas.Int.{ints, to_z-of_z}
use Rattle.domains.specs.Arithmetic.{floor_div}
use Rattle.value_ranges.specs.declared.value_range.ValueRange.{ValueRange}
use Rattle.value_ranges.proofs.Ends.{quotient_in}
use Rattle.value_ranges.proofs.operands.find_value_range_of_quotient.Goals as goal

pub returns : goal.returns
returns c = λ v is a.
    let above : pos 0 <ℤ pos c.args.divisor = let some = is.0 in omega (arith, ints) in
    let found : ValueRange = record { lo = to_z w32 (of_z w32 c.floor_div.result); hi = to_z w32 (of_z w32 c.floor_div-2.result) } in
    let low : found.lo ≡ floor_div c.args.a.lo (pos c.args.divisor) = grind (arith, to_z-of_z, c.floor_div.ensures) in
    let high : found.hi ≡ floor_div c.args.a.hi (pos c.args.divisor) = grind (arith, to_z-of_z, c.floor_div-2.ensures) in
    quotient_in c.args.a found v (pos c.args.divisor) above a low high
