use Rattle.domains.proofs.Places.{ok_then}
use Rattle.job.specs.Views.{formula_view}
use Rattle.joined_formulas.proofs.Parts.{by_rewriting, steps}
use Rattle.joined_formulas.proofs.joined.make_joined_formula.Goals as goal

pub returns : goal.returns
returns c =
    ok_then c.normalize_formula.result c.normalize_formula.ensures (λ made x.
    steps c.args.known.now (formula_view c.args.formula.now) (formula_view c.in_ok-joined.joined) (formula_view made) c.in_ok-joined.ensures
    (by_rewriting c.args.known.now (formula_view c.in_ok-joined.joined) (formula_view made) x))
