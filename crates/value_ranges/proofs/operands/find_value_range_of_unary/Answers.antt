use Rattle.std.proofs.Common.{arith, pos, sym, subst}
use Rattle.std.specs.Prelude.{neg_ℤ, unsigned_abs}
use Rattle.std.proofs.lemmas.Int.{ints, clamps}
use Rattle.operators.specs.declared.operator.UnaryOp.{UnaryOp}
use Rattle.operators.specs.Values.{unary_value}
use Rattle.value_ranges.specs.Ranges.{InRange}
use Rattle.value_ranges.proofs.operands.find_value_range_of_unary.Goals as goal

pub returns-in-Neg : goal.returns-in-Neg
returns-in-Neg c = λ v a.
    let low = a.low in let high = a.high in
    subst (λ (op : UnaryOp). InRange c.wrap_value_range.result (unary_value op v)) (sym c.in-Neg.is)
    (c.wrap_value_range.ensures (neg_ℤ v) (omega (arith, ints)) (omega (arith, ints)))

pub returns-in-Abs : goal.returns-in-Abs
returns-in-Abs c = λ v a.
    let low = a.low in let high = a.high in
    subst (λ (op : UnaryOp). InRange c.wrap_value_range-in-Abs.result (unary_value op v)) (sym c.in-Abs.is)
    (c.wrap_value_range-in-Abs.ensures (pos (unsigned_abs v)) (omega (arith, ints, clamps)) (omega (arith, ints, clamps)))
