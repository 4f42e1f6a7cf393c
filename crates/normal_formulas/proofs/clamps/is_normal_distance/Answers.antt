use Rattle.std.proofs.Common.{rules, ◌≡◌, subst, sym}
use Rattle.operators.specs.declared.operator.UnaryOp.TheVariants.{Abs}
use Rattle.operators.specs.declared.operator.BinaryOp.{BinaryOp}
use Rattle.operators.specs.declared.operator.BinaryOp.TheVariants.{Sub, Max}
use Rattle.job.specs.Formula.{unary, binary}
use Rattle.job.specs.Views.{formula_view}
use Rattle.normal_formulas.specs.Rewrites.{Rewrites}
use Rattle.normal_formulas.proofs.Choices.{distance_found}
use Rattle.normal_formulas.proofs.clamps.is_normal_distance.Goals as goal

pub returns-then-is_same_normal_formula : goal.returns-then-is_same_normal_formula
returns-then-is_same_normal_formula c = λ same.
    let found = c.in-Max-Binary-Sub-default-default-Binary-Sub-default-default in
    let a = formula_view found.first.value in
    let b = formula_view found.second.value in
    let p = formula_view found.other.value in
    let q = formula_view found.last.value in
    let op : c.args.op ≡ Max = search rules in
    let left : formula_view c.args.left.now ≡ binary Sub a b = search rules in
    let right : formula_view c.args.right.now ≡ binary Sub p q = search rules in
    let first : a ≡ q = search rules in
    let second : b ≡ p = search rules in
    subst (λ (o : BinaryOp). Rewrites (binary o (formula_view c.args.left.now) (formula_view c.args.right.now)) (unary Abs (formula_view c.args.left.now)))
    (sym op)
    (distance_found (formula_view c.args.left.now) (formula_view c.args.right.now) a b p q left right first second)
