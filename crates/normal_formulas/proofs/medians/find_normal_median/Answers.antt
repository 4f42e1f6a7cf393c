use Rattle.std.proofs.Common.{rules, ◌≡◌, inl, refl, sym, subst}
use Rattle.operators.specs.declared.operator.BinaryOp.{BinaryOp}
use Rattle.operators.specs.declared.operator.BinaryOp.TheVariants.{Min}
use Rattle.job.specs.Formula.{binary}
use Rattle.job.specs.Views.{formula_view}
use Rattle.normal_formulas.specs.Rewrites.{Rewrites}
use Rattle.normal_formulas.specs.NormalMedians.{median}
use Rattle.normal_formulas.proofs.Laws.{operands_exchanged}
use Rattle.normal_formulas.proofs.Rewriting.{steps}
use Rattle.normal_formulas.proofs.medians.find_normal_median.Goals as goal

pub returns-in_ok-build_normal_median-in-Some-find_normal_third : goal.returns-in_ok-build_normal_median-in-Some-find_normal_third
returns-in_ok-build_normal_median-in-Some-find_normal_third c =
    let left = formula_view c.args.left.now in
    let right = formula_view c.args.right.now in
    let lesser = formula_view c.in-Some-find_normal_third.lesser.now in
    let third = formula_view c.in-Some-find_normal_third.third.now in
    let least : c.args.op ≡ Min = search rules in
    subst (λ (op : BinaryOp). Rewrites (binary op left right) (formula_view c.in_ok-build_normal_median-in-Some-find_normal_third.field-0)) (sym least)
    (subst (Rewrites (binary Min left right)) (sym c.in_ok-build_normal_median-in-Some-find_normal_third.ensures)
    (steps (binary Min left right) (binary Min right left) (median lesser left third) (operands_exchanged Min left right (inl refl))
    c.in-Some-find_normal_third.ensures))
