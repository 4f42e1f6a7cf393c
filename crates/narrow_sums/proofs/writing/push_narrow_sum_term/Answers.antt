use Rattle.std.proofs.Common.{rules, ℕ, ◌<◌, ℤ, ◌+ℤ◌, ◌*ℤ◌, pos, length, subst, ap, sym, ◌∙◌, to_z, of_z, w16, FitsSigned}
use Rattle.std.proofs.lemmas.Int.{to_z-of_z}
use Rattle.row_loops.specs.Rows.{at}
use Rattle.narrow_sums.proofs.NarrowAddends.{gives_same, same_sum}
use Rattle.narrow_sums.specs.declared.terms.NarrowSumPart.{NarrowSumPart}
use Rattle.narrow_sums.specs.inside.TermValues.{part_value, term_value}
use Rattle.narrow_sums.proofs.writing.push_narrow_sum_term.Goals as goal

pub returns-in-Read-clause-sum : goal.returns-in-Read-clause-sum
returns-in-Read-clause-sum g c = λ f h.
    let env = g.S.NarrowSource.samples c.args.source.now in
    let points = c.args.points.now in
    let term = c.args.term.now in
    let fits : FitsSigned w16 term.weight = search rules in
    gives_same (length c.args.out.now) (λ k. f k +ℤ to_z w16 (of_z w16 term.weight) *ℤ at c.borrow_narrow_sum_read_line-line.result.now k)
    (λ k. f k +ℤ term_value env term points.row (points.col +ℤ pos k)) c.push_narrow_sum_tap.new.self c.push_narrow_sum_tap.new.out
    (λ k l. same_sum (f k) _ _
    (ap (λ (z : ℤ). z *ℤ at c.borrow_narrow_sum_read_line-line.result.now k) (to_z-of_z w16 term.weight fits)
    ∙ ap (λ (z : ℤ). term.weight *ℤ z) (c.borrow_narrow_sum_read_line-line.ensures.values k (subst (λ (n : ℕ). k < n) c.requires.fits l)
    ∙ ap (λ (part : NarrowSumPart). part_value env part points.row (points.col +ℤ pos k)) (sym c.in-Read.is))))
    (c.push_narrow_sum_tap.ensures.sum f h)
