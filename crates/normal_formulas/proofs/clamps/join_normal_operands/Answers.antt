use Rattle.std.proofs.Common.{subst}
use Rattle.job.specs.Formula.{Formula, binary}
use Rattle.job.specs.Views.{formula_view}
use Rattle.domains.proofs.Places.{ok_then}
use Rattle.normal_formulas.specs.Rewrites.{Rewrites}
use Rattle.normal_formulas.proofs.Rewriting.{steps}
use Rattle.normal_formulas.proofs.KernelLaws.{of_some}
use Rattle.normal_formulas.proofs.clamps.join_normal_operands.Goals as goal

pub returns-in-Some : goal.returns-in-Some
returns-in-Some c =
    let op = c.args.op in
    let ordered = c.order_normal_operands-left.result in
    let made = formula_view c.in-Some.median in
    steps (binary op (formula_view c.args.left.value) (formula_view c.args.right.value))
    (binary op (formula_view ordered.0.value) (formula_view ordered.1.value)) made c.order_normal_operands-left.ensures
    (subst (λ (f : Formula). Rewrites f made) (λ i. binary op (formula_view (c.deref-3.ensures i)) (formula_view (c.deref-4.ensures i)))
    (of_some _ c.in_ok-median.field-0 c.in-Some.median c.in-Some.is c.in_ok-median.ensures))

pub returns-in-None : goal.returns-in-None
returns-in-None c =
    let op = c.args.op in
    let ordered = c.order_normal_operands-left.result in
    ok_then c.clamp_normal_operands.result c.clamp_normal_operands.ensures (λ made x.
    steps (binary op (formula_view c.args.left.value) (formula_view c.args.right.value))
    (binary op (formula_view ordered.0.value) (formula_view ordered.1.value)) (formula_view made) c.order_normal_operands-left.ensures x)
