use Rattle.std.proofs.Common.{rules, ◌≤ℤ◌, ℤ, FitsSigned, w32, to_z, of_z, ap, sym, subst, ◌∙◌}
use Rattle.std.proofs.lemmas.Int.{to_z-of_z}
use Rattle.operators.specs.declared.operator.BinaryOp.{BinaryOp}
use Rattle.operators.specs.declared.operator.BinaryOp.TheVariants.{Min, Max}
use Rattle.operators.specs.declared.operator.TernaryOp.TheVariants.{Clamp}
use Rattle.job.specs.Formula.{number, binary, ternary}
use Rattle.job.specs.Views.{formula_view}
use Rattle.normal_formulas.specs.Rewrites.{Rewrites}
use Rattle.normal_formulas.proofs.Laws.{clamp_of_min, clamp_of_max}
use Rattle.normal_formulas.proofs.clamps.find_normal_clamp.Goals as goal

pub returns-in_ok-of-in-Min : goal.returns-in_ok-of-in-Min
returns-in_ok-of-in-Min c =
    let low_fits : FitsSigned w32 c.in_ok-of-in-Min.low = search rules in
    let high_fits : FitsSigned w32 c.in-Number.number = search rules in
    let low = to_z w32 (of_z w32 c.in_ok-of-in-Min.low) in
    let high = to_z w32 (of_z w32 c.in-Number.number) in
    let left = formula_view c.args.left.now in
    let right = formula_view c.args.right.now in
    let of = formula_view c.in_ok-of-in-Min.of.now in
    subst (λ (op : BinaryOp). Rewrites (binary op left right) (ternary Clamp of (number low) (number high))) (sym c.in-Min.is)
    (clamp_of_min left right of low high
    (c.in_ok-of-in-Min.ensures ∙ ap (λ (z : ℤ). binary Max of (number z)) (sym (to_z-of_z w32 c.in_ok-of-in-Min.low low_fits)))
    (ap formula_view c.in-Number.is ∙ ap number (sym (to_z-of_z w32 c.in-Number.number high_fits))))

pub returns-then-number-high : goal.returns-then-number-high
returns-then-number-high c =
    let low_fits : FitsSigned w32 c.in-Number.number = search rules in
    let high_fits : FitsSigned w32 c.in_ok-of-in-Max.high = search rules in
    let low = to_z w32 (of_z w32 c.in-Number.number) in
    let high = to_z w32 (of_z w32 c.in_ok-of-in-Max.high) in
    let left = formula_view c.args.left.now in
    let right = formula_view c.args.right.now in
    let of = formula_view c.in_ok-of-in-Max.of.now in
    let most : low ≤ℤ high = search rules in
    subst (λ (op : BinaryOp). Rewrites (binary op left right) (ternary Clamp of (number low) (number high))) (sym c.in-Max.is)
    (clamp_of_max left right of low high most
    (c.in_ok-of-in-Max.ensures ∙ ap (λ (z : ℤ). binary Min of (number z)) (sym (to_z-of_z w32 c.in_ok-of-in-Max.high high_fits)))
    (ap formula_view c.in-Number.is ∙ ap number (sym (to_z-of_z w32 c.in-Number.number low_fits))))
