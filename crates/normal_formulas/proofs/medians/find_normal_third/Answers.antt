use Rattle.std.proofs.Common.{refl}
use Rattle.job.specs.Views.{formula_view}
use Rattle.normal_formulas.proofs.MiddleLaws.{lesser_first, lesser_second}
use Rattle.normal_formulas.proofs.medians.find_normal_third.Goals as goal

pub returns-then-are_normal_lesser_and_greater : goal.returns-then-are_normal_lesser_and_greater
returns-then-are_normal_lesser_and_greater c =
    lesser_second (formula_view c.args.formula.now) (formula_view c.in_ok-left.right.now) (formula_view c.args.greater.now)
    (formula_view c.in_ok-left.left.now) c.in_ok-left.ensures (c.if-are_normal_lesser_and_greater.ensures refl)

pub returns-then-are_normal_lesser_and_greater-2 : goal.returns-then-are_normal_lesser_and_greater-2
returns-then-are_normal_lesser_and_greater-2 c =
    lesser_first (formula_view c.args.formula.now) (formula_view c.in_ok-left.left.now) (formula_view c.args.greater.now)
    (formula_view c.in_ok-left.right.now) c.in_ok-left.ensures (c.if-are_normal_lesser_and_greater-2.ensures refl)
