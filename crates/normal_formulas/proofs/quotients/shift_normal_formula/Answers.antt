use Rattle.std.proofs.Common.{rules, ◌≡◌, ap, ◌∙◌}
use Rattle.operators.specs.declared.operator.LiteralOp.TheVariants.{Shr}
use Rattle.job.specs.Formula.{literal, stencil}
use Rattle.job.specs.Views.{formula_view}
use Rattle.normal_formulas.proofs.Rewriting.{same, from_same}
use Rattle.normal_formulas.proofs.KernelLaws.{stencil_shifted, small_power}
use Rattle.normal_formulas.proofs.quotients.shift_normal_formula.Goals as goal

pub returns-in-Stencil-default-eq1-default : goal.returns-in-Stencil-default-eq1-default
returns-in-Stencil-default-eq1-default c =
    let g = c.in-Stencil-default-eq1-default.stage in
    let kernel = c.in-Stencil-default-eq1-default.kernel in
    from_same (literal Shr (formula_view c.args.of) c.args.bits) (literal Shr (stencil g 1 kernel) c.args.bits) _
    (ap (λ f. literal Shr f c.args.bits)
    (ap formula_view c.in-Stencil-default-eq1-default.is
    ∙ ap (λ n. stencil g n kernel) c.in-Stencil-default-eq1-default.field-1-test))
    (stencil_shifted g _ c.args.bits kernel (small_power c.args.bits c.if-bits-lt31.true) c.if-bits-lt31.true)

pub returns-in_ok-new-in_default : goal.returns-in_ok-new-in_default
returns-in_ok-new-in_default c =
    let of = c.in_ok-new-in_default.field-0.value in
    let is : of ≡ c.args.of = search rules in
    same (literal Shr (formula_view c.args.of) c.args.bits) (literal Shr (formula_view of) c.args.bits)
    (ap (λ f. literal Shr (formula_view f) c.args.bits) is)
