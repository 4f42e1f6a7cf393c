use Rattle.std.proofs.Common.{ap}
use Rattle.job.specs.Formula.{literal}
use Rattle.job.specs.Views.{formula_view}
use Rattle.normal_formulas.proofs.Rewriting.{same}
use Rattle.normal_formulas.proofs.quotients.apply_normal_literal.Goals as goal

pub returns-in_ok-new-in-Rem : goal.returns-in_ok-new-in-Rem
returns-in_ok-new-in-Rem c =
    same (literal c.args.op (formula_view c.args.of) c.args.number) _
    (ap (λ f. literal c.args.op (formula_view f) c.args.number) c.in_ok-new-in-Rem.ensures.ok)
