use Rattle.std.proofs.Common.{rules, ◌≡◌, ap, ◌∙◌}
use Rattle.operators.specs.declared.operator.LiteralOp.TheVariants.{Div}
use Rattle.job.specs.Formula.{literal, stencil}
use Rattle.job.specs.Views.{formula_view}
use Rattle.normal_formulas.proofs.Rewriting.{same, from_same}
use Rattle.normal_formulas.proofs.KernelLaws.{stencil_divided}
use Rattle.normal_formulas.proofs.quotients.divide_normal_sum.Goals as goal

pub returns-in-Stencil-default-eq1-default : goal.returns-in-Stencil-default-eq1-default
returns-in-Stencil-default-eq1-default c =
    let g = c.in-Stencil-default-eq1-default.stage in
    let kernel = c.in-Stencil-default-eq1-default.kernel in
    from_same (literal Div (formula_view c.args.of) c.args.divisor) (literal Div (stencil g 1 kernel) c.args.divisor)
    (stencil g c.args.divisor kernel)
    (ap (λ f. literal Div f c.args.divisor)
    (ap formula_view c.in-Stencil-default-eq1-default.is
    ∙ ap (λ n. stencil g n kernel) c.in-Stencil-default-eq1-default.field-1-test))
    (stencil_divided g c.args.divisor kernel)

pub returns-in_ok-new-in_default : goal.returns-in_ok-new-in_default
returns-in_ok-new-in_default c =
    let of = c.in_ok-new-in_default.field-0.value in
    let is : of ≡ c.args.of = search rules in
    same (literal Div (formula_view c.args.of) c.args.divisor) (literal Div (formula_view of) c.args.divisor)
    (ap (λ f. literal Div (formula_view f) c.args.divisor) is)
