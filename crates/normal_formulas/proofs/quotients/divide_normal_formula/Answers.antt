use Rattle.operators.specs.declared.operator.LiteralOp.TheVariants.{Div, Shr}
use Rattle.job.specs.Formula.{literal}
use Rattle.job.specs.Views.{formula_view}
use Rattle.domains.proofs.Places.{ok_then}
use Rattle.normal_formulas.proofs.Laws.{quotient_by_one, quotient_by_power}
use Rattle.normal_formulas.proofs.Rewriting.{steps}
use Rattle.normal_formulas.proofs.quotients.divide_normal_formula.Goals as goal

pub returns-in-Some-eq0 : goal.returns-in-Some-eq0
returns-in-Some-eq0 c =
    quotient_by_one (formula_view c.args.of) c.args.divisor c.in-Some-eq0.field-0 c.in-Some-eq0.field-0-test c.in-Some-eq0.ensures.power

pub returns-in-Some : goal.returns-in-Some
returns-in-Some c =
    let of = formula_view c.args.of in
    ok_then c.shift_normal_formula.result c.shift_normal_formula.ensures (λ made x.
    steps (literal Div of c.args.divisor) (literal Shr of c.in-Some.bits) (formula_view made)
    (quotient_by_power of c.args.divisor c.in-Some.bits c.in-Some.ensures.power c.in-Some.ensures.few) x)
