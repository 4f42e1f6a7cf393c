use Rattle.std.proofs.Common.{rules, ◌≡◌, FitsSigned, w32, ap, sym, subst, ◌∙◌}
use Rattle.std.proofs.lemmas.Int.{to_z-of_z}
use Rattle.operators.specs.declared.operator.TernaryOp.TheVariants.{Clamp}
use Rattle.job.specs.Formula.{Formula, number, binary, ternary}
use Rattle.job.specs.Views.{formula_view}
use Rattle.normal_formulas.specs.Rewrites.{Rewrites}
use Rattle.normal_formulas.proofs.clamps.clamp_normal_operands.Goals as goal

pub returns-in_ok-new-in-Some-2 : goal.returns-in_ok-new-in-Some-2
returns-in_ok-new-in-Some-2 c =
    let given = binary c.args.op (formula_view c.args.left.value) (formula_view c.args.right.value) in
    let low_fits : FitsSigned w32 c.in-Some.low = search rules in
    let high_fits : FitsSigned w32 c.in-Some.high = search rules in
    let of : formula_view c.in_ok-copy_normal_formula_in_box-in-Some.field-0.value ≡ formula_view c.in-Some.of.now =
    c.in_ok-copy_normal_formula_in_box-in-Some.ensures in
    let low : formula_view c.in_ok-new-in-Some.field-0.value ≡ number c.in-Some.low =
    ap formula_view c.in_ok-new-in-Some.ensures.ok ∙ ap number (to_z-of_z w32 c.in-Some.low low_fits) in
    let high : formula_view c.in_ok-new-in-Some-2.field-0.value ≡ number c.in-Some.high =
    ap formula_view c.in_ok-new-in-Some-2.ensures.ok ∙ ap number (to_z-of_z w32 c.in-Some.high high_fits) in
    subst (Rewrites given) (λ i. ternary Clamp (sym of i) (sym low i) (sym high i))
    (subst (λ (f : Formula). Rewrites f (ternary Clamp (formula_view c.in-Some.of.now) (number c.in-Some.low) (number c.in-Some.high)))
    (λ i. binary c.args.op (formula_view (c.deref.ensures i)) (formula_view (c.deref-2.ensures i))) c.in-Some.ensures)
