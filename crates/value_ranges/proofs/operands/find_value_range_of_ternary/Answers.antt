use Rattle.std.proofs.Common.{arith, to_z, of_z, w32}
use Rattle.std.proofs.lemmas.Int.{ints, clamps}
use Rattle.value_ranges.specs.declared.value_range.ValueRange.{ValueRange}
use Rattle.value_ranges.proofs.Ends.{ternary_in}
use Rattle.value_ranges.proofs.operands.find_value_range_of_ternary.Goals as goal

pub returns : goal.returns
returns c = λ v l h a b d.
    let found : ValueRange = record { lo = to_z w32 (of_z w32 c.min.result); hi = to_z w32 (of_z w32 c.min-2.result) } in
    ternary_in c.args.op c.args.a c.args.least c.args.greatest found v l h a b d (omega (arith, ints, clamps)) (omega (arith, ints, clamps))
