use Rattle.std.proofs.Common.{rules}
use Rattle.job.specs.Views.{formula_view}
use Rattle.joined_formulas.proofs.PartReads.{known_part}
use Rattle.joined_formulas.proofs.known_parts.find_joined_part.Goals as goal

pub returns-in-Some : goal.returns-in-Some
returns-in-Some c =
    known_part c.args.known.now c.each-item.result (formula_view c.args.formula.now) (formula_view c.in-Some.made) (search rules) (search rules)
    c.in-Some.ensures
