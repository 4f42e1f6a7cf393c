use Rattle.job.specs.Views.{formula_view}
use Rattle.narrow_sums.proofs.TermLaws.{first_listed}
use Rattle.narrow_sums.proofs.finding.list_first_narrow_sum_term.Goals as goal

pub returns-in_ok-append_narrow_sum_term-in-Some : goal.returns-in_ok-append_narrow_sum_term-in-Some
returns-in_ok-append_narrow_sum_term-in-Some c =
    first_listed (formula_view c.args.formula.now) c.args.terms.items _ c.in-Some.term c.in_ok-append_narrow_sum_term-in-Some.ensures
    c.in-Some.ensures.op c.in-Some.ensures.formula
