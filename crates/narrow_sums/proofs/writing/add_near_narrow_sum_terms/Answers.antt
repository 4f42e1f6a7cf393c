use Rattle.std.proofs.Common.{arith, rules, ◌+◌, ◌+ℤ◌, ◌∙◌, ℕ, pos, w16, List, ap}
use Rattle.std.specs.Int.{int_wrap}
use Rattle.std.proofs.lemmas.List.{take_all}
use Rattle.narrow_sums.specs.inside.TermOrders.{ordered_value}
use Rattle.narrow_sums.proofs.NearLaws.{next_values, chunk_added}
use Rattle.narrow_sums.proofs.writing.add_near_narrow_sum_terms.Goals as goal

pub loop-start-preserved : goal.loop-start-preserved
loop-start-preserved g c =
    let env = g.S.NarrowSource.samples c.args.source.now in
    let points = c.args.points.now in
    let terms = c.args.terms.now in
    let xs = c.args.order.now in
    let start = c.loop-start.start in
    let count = c.min.result in
    let same = c.loop-start.auto.out in
    let row = c.requires.fits in
    record {
      within = search rules;
      sums = λ own bounds has k l s e.
          let here = points.col +ℤ pos k in
          c.add_centered_narrow_tap_sums.ensures k (omega (arith, same, l)) _ (c.loop-start.invariant.sums own bounds has k l s e)
          ∙ ap (int_wrap w16) (chunk_added s _ _ _ _
          (c.borrow_left_narrow_sum_term_lines-lines.ensures.values own bounds c.args.center has k (omega (arith, row, l)))
          (next_values env points.row here terms start (start + count) xs (omega arith)));
    }

pub returns : goal.returns
returns g c = λ own bounds has k l s e.
    let env = g.S.NarrowSource.samples c.args.source.now in
    let points = c.args.points.now in
    c.loop-start.invariant.sums own bounds has k l s e
    ∙ ap (λ (xs : List ℕ). int_wrap w16 (s +ℤ ordered_value env c.args.terms.now xs points.row (points.col +ℤ pos k)))
    (take_all c.loop-start.start c.args.order.now c.loop-start-test.false)
