use Rattle.std.proofs.Common.{rules, ◌≡◌, sym, subst}
use Rattle.job.specs.Formula.{literal, read}
use Rattle.job.specs.Views.{formula_view}
use Rattle.job.specs.declared.formula.Formula.{Formula as KeptFormula}
use Rattle.operators.specs.declared.operator.LiteralOp.TheVariants.{Div}
use Rattle.joined_formulas.specs.Joins.{Joins}
use Rattle.joined_formulas.proofs.Parts.{literal_part}
use Rattle.joined_formulas.proofs.joined.join_own_stencil.Goals as goal

pub returns : goal.returns
returns c =
    let same : c.in_ok-new.field-0.value ≡ c.in_ok-read.read = search rules in
    let given = read c.args.stage c.args.own c.args.own in
    subst (λ (k : KeptFormula). Joins c.args.known.now (literal Div given c.args.divisor) (literal Div (formula_view k) c.args.divisor))
    (sym same)
    (literal_part c.args.known.now Div c.args.divisor given (formula_view c.in_ok-read.read) c.in_ok-read.ensures)
