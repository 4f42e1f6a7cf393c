use Rattle.std.proofs.Common.{arith, ℕ, List, ◌≡◌, ◌+◌, ◌+ℤ◌, pos, length, take, ap, subst}
use Rattle.std.specs.Int.{w16, int_wrap}
use Rattle.std.proofs.lemmas.List.{take_all}
use Rattle.narrow_sums.specs.NarrowSums.{HasAddends}
use Rattle.narrow_sums.proofs.NarrowAddends.{gives_same}
use Rattle.narrow_sums.specs.inside.TermValues.{term_value}
use Rattle.narrow_sums.specs.inside.TermOrders.{ordered_value}
use Rattle.narrow_sums.proofs.TermOrders.{ordered_next}
use Rattle.narrow_sums.proofs.writing.push_narrow_sum_terms.Goals as goal

pub loop-k-preserved : goal.loop-k-preserved
loop-k-preserved g c =
    let env = g.S.NarrowSource.samples c.args.source.now in
    let points = c.args.points.now in
    let terms = c.args.terms.now in
    let order = c.args.order.now in
    let term = c.index-terms-order.result in
    let n = length c.args.out.now in
    let same : length c.loop-k.out ≡ n = c.loop-k.auto.out in
    record {
      addends = subst (λ (m : ℕ). HasAddends m c.push_narrow_sum_term.new.sum) same c.push_narrow_sum_term.ensures.addends;
      sum = λ f h.
          gives_same n
          (λ k. f k +ℤ ordered_value env terms (take c.loop-k.k order) points.row (points.col +ℤ pos k)
          +ℤ term_value env term points.row (points.col +ℤ pos k))
          (λ k. f k +ℤ ordered_value env terms (take (c.loop-k.k + 1) order) points.row (points.col +ℤ pos k))
          c.push_narrow_sum_term.new.sum c.push_narrow_sum_term.new.out
          (λ k l. ap (int_wrap w16)
          (ordered_next env points.row (points.col +ℤ pos k) terms order c.loop-k.k term (f k) c.loop-k-test.true
          (c.requires.numbers c.loop-k.k 0 c.loop-k-test.true) c.index-terms-order.is))
          (λ k l. c.push_narrow_sum_term.ensures.sum (λ j. f j +ℤ ordered_value env terms (take c.loop-k.k order) points.row (points.col +ℤ pos j))
          (λ j m. c.loop-k.invariant.sum f h j (omega (arith, same, m))) k (omega (arith, same, l)));
    }

pub returns-clause-sum : goal.returns-clause-sum
returns-clause-sum g c = λ f h.
    let env = g.S.NarrowSource.samples c.args.source.now in
    let points = c.args.points.now in
    let terms = c.args.terms.now in
    gives_same (length c.args.out.now)
    (λ k. f k +ℤ ordered_value env terms (take c.loop-k.k c.args.order.now) points.row (points.col +ℤ pos k))
    (λ k. f k +ℤ ordered_value env terms c.args.order.now points.row (points.col +ℤ pos k)) c.loop-k.sum c.loop-k.out
    (λ k l. ap (λ (xs : List ℕ). int_wrap w16 (f k +ℤ ordered_value env terms xs points.row (points.col +ℤ pos k)))
    (take_all c.loop-k.k c.args.order.now c.loop-k-test.false))
    (c.loop-k.invariant.sum f h)
