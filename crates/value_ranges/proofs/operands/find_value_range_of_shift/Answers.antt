use Rattle.std.proofs.Common.{arith, pos, ◌<ℤ◌, ◌^◌, ◌≡◌, to_z, of_z, w32}
use Rattle.std.proofs.lemmas.Int.{ints, to_z-of_z}
use Rattle.std.proofs.lemmas.Nat.{pow_pos}
use Rattle.domains.specs.Arithmetic.{floor_div}
use Rattle.value_ranges.specs.declared.value_range.ValueRange.{ValueRange}
use Rattle.value_ranges.proofs.Ends.{quotient_in}
use Rattle.value_ranges.proofs.operands.find_value_range_of_shift.Goals as goal

pub returns : goal.returns
returns c = λ v is a.
    let above : pos 0 <ℤ pos (2 ^ c.args.count) = let some = pow_pos c.args.count in omega (arith, ints) in
    let found : ValueRange = record { lo = to_z w32 (of_z w32 c.floor_shr.result); hi = to_z w32 (of_z w32 c.floor_shr-2.result) } in
    let low : found.lo ≡ floor_div c.args.a.lo (pos (2 ^ c.args.count)) = grind (arith, to_z-of_z, c.floor_shr.ensures) in
    let high : found.hi ≡ floor_div c.args.a.hi (pos (2 ^ c.args.count)) = grind (arith, to_z-of_z, c.floor_shr-2.ensures) in
    quotient_in c.args.a found v (pos (2 ^ c.args.count)) above a low high
