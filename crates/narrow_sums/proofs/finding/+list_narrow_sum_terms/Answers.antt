use Rattle.std.proofs.Common.{rules, ◌≡◌, IfOk, subst}
use Rattle.std.specs.Option.{option_map_or}
use Rattle.job.specs.Formula.{Formula, binary}
use Rattle.job.specs.Views.{formula_view}
use Rattle.narrow_sums.specs.SumTerms.{joined_terms, terms_formula}
use Rattle.narrow_sums.proofs.TermLaws.{more_listed}
use Rattle.narrow_sums.proofs.finding.+list_narrow_sum_terms.Goals as goal

pub returns-in_ok-append_narrow_sum_term-in-Some : goal.returns-in_ok-append_narrow_sum_term-in-Some
returns-in_ok-append_narrow_sum_term-in-Some t c =
    let front : Formula = formula_view c.deref-in-Some.result.now in
    let last : Formula = formula_view c.deref.result.now in
    let is : formula_view c.args.formula.now ≡ binary c.in-Binary.op front last = search rules in
    subst (λ (g : Formula). IfOk c.list_narrow_sum_terms.result
    (λ it. option_map_or (λ f. joined_terms (formula_view f.now) it.1.items) it.0 (terms_formula it.1.items) ≡ g))
    (more_listed (formula_view c.args.formula.now) front last c.in-Binary.op c.args.terms.items
    c.in_ok-append_narrow_sum_term-in-Some.field-0.items c.in-Some.term is c.in_ok-append_narrow_sum_term-in-Some.ensures c.in-Some.ensures.op
    c.in-Some.ensures.formula)
    c.list_narrow_sum_terms.ensures
