use Rattle.joined_formulas.proofs.StageFormulas.{moved_read}
use Rattle.joined_formulas.proofs.joined.join_read.Goals as goal
use Rattle.std.proofs.Common.{rules}
use Rattle.job.specs.Views.{formula_view}
use Rattle.joined_formulas.specs.inside.Moved.{IsAt}

pub returns-in-Some-2 : goal.returns-in-Some-2
returns-in-Some-2 c =
    let at : IsAt c.args.row c.args.column (formula_view c.in-Some.formula.now) (formula_view c.in-Some-2.made) = search rules in
    moved_read c.args.known.now c.args.stage c.args.row c.args.column (formula_view c.in-Some.formula.now) (formula_view c.in-Some-2.made)
    c.in-Some.ensures at
