use Rattle.std.proofs.Common.{arith, ◌+ℤ◌, ◌-ℤ◌, to_z, of_z, w32, sym, subst}
use Rattle.std.proofs.lemmas.Int.{ints, clamps}
use Rattle.operators.specs.declared.operator.BinaryOp.{BinaryOp}
use Rattle.operators.specs.Values.{binary_value}
use Rattle.value_ranges.specs.declared.value_range.ValueRange.{ValueRange}
use Rattle.value_ranges.specs.Ranges.{InRange}
use Rattle.value_ranges.proofs.Ends.{min_in, max_in}
use Rattle.value_ranges.proofs.operands.find_value_range_of_binary.Goals as goal

pub returns-in-Add : goal.returns-in-Add
returns-in-Add c = λ v w a b.
    let al = a.low in let ah = a.high in let bl = b.low in let bh = b.high in
    subst (λ (op : BinaryOp). InRange c.wrap_value_range.result (binary_value op v w)) (sym c.in-Add.is)
    (c.wrap_value_range.ensures (v +ℤ w) (omega (arith, ints)) (omega (arith, ints)))

pub returns-in-Sub : goal.returns-in-Sub
returns-in-Sub c = λ v w a b.
    let al = a.low in let ah = a.high in let bl = b.low in let bh = b.high in
    subst (λ (op : BinaryOp). InRange c.wrap_value_range-in-Sub.result (binary_value op v w)) (sym c.in-Sub.is)
    (c.wrap_value_range-in-Sub.ensures (v -ℤ w) (omega (arith, ints)) (omega (arith, ints)))

pub returns-in-Min : goal.returns-in-Min
returns-in-Min c = λ v w a b.
    let found : ValueRange = record { lo = to_z w32 (of_z w32 c.min.result); hi = to_z w32 (of_z w32 c.min-in-Min.result) } in
    subst (λ (op : BinaryOp). InRange found (binary_value op v w)) (sym c.in-Min.is)
    (min_in c.args.a c.args.b found v w a b (omega (arith, ints, clamps)) (omega (arith, ints, clamps)))

pub returns-in-Max : goal.returns-in-Max
returns-in-Max c = λ v w a b.
    let found : ValueRange = record { lo = to_z w32 (of_z w32 c.max.result); hi = to_z w32 (of_z w32 c.max-in-Max.result) } in
    subst (λ (op : BinaryOp). InRange found (binary_value op v w)) (sym c.in-Max.is)
    (max_in c.args.a c.args.b found v w a b (omega (arith, ints, clamps)) (omega (arith, ints, clamps)))
