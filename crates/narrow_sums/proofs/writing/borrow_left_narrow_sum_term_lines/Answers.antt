use Rattle.std.proofs.Common.{arith, rules, ◌≡◌, ◌<◌, ◌∙◌, w16, FitsSigned, ℕ, ◌+ℤ◌, pos, List, length, take, to_z, of_z, ap}
use Rattle.std.proofs.lemmas.Int.{to_z-of_z}
use Rattle.std.proofs.lemmas.List.{take_all, length-set}
use Rattle.narrow_kernels.specs.declared.narrow_taps.NarrowTap.{NarrowTap}
use Rattle.narrow_kernels.specs.NarrowCenters.{centered_tap_sum}
use Rattle.narrow_sums.proofs.NarrowAddends.{more_tap_lines}
use Rattle.narrow_sums.specs.declared.terms.NarrowSumRead.{NarrowSumRead}
use Rattle.narrow_sums.specs.inside.TermValues.{sample_of}
use Rattle.narrow_sums.specs.inside.TermOrders.{ordered_value}
use Rattle.narrow_sums.proofs.NearLaws.{one_more_line}
use Rattle.narrow_sums.proofs.writing.borrow_left_narrow_sum_term_lines.Goals as goal

pub loop-i-preserved : goal.loop-i-preserved
loop-i-preserved g c =
    let env = g.S.NarrowSource.samples c.args.source.now in
    let points = c.args.points.now in
    let eight = c.loop-i.invariant.space in
    let few = c.requires.count in
    let long = c.loop-i-test.true in
    let space : c.loop-i.i < length c.loop-i.lines = omega (arith, eight, few, long) in
    let t = c.index-terms-order.result in
    let fits : FitsSigned w16 t.weight = search rules in
    let tap : NarrowTap = record { line = c.borrow_narrow_sum_read_line.result; factor = to_z w16 (of_z w16 t.weight) } in
    record {
      space = length-set c.loop-i.lines c.loop-i.i tap ∙ eight;
      lines = more_tap_lines points.len c.loop-i.lines c.loop-i.i tap space c.loop-i.invariant.lines c.borrow_narrow_sum_read_line.ensures.count;
      values = λ own bounds center has k l.
          one_more_line env points.row points.col points.len own bounds center c.args.terms.now has c.loop-i.lines c.args.order.now c.loop-i.i
          tap t k l space long (c.requires.numbers c.loop-i.i 0 long) c.index-terms-order.is (to_z-of_z w16 t.weight fits)
          (c.borrow_narrow_sum_read_line.ensures.values k l
          ∙ ap (λ (x : NarrowSumRead). sample_of env x points.row (points.col +ℤ pos k)) c.find_left_narrow_sum_read-left.ensures)
          (c.loop-i.invariant.values own bounds center has k l);
    }

pub returns-clause-values : goal.returns-clause-values
returns-clause-values g c = λ own bounds center has k l.
    let env = g.S.NarrowSource.samples c.args.source.now in
    let points = c.args.points.now in
    let order = c.args.order.now in
    let most = c.loop-i.auto.i-end in
    let least = c.loop-i-test.false in
    let all : length order ≡ c.loop-i.i = omega (arith, most, least) in
    ap (λ (n : ℕ). centered_tap_sum center (take n c.loop-i.lines) k) all
    ∙ c.loop-i.invariant.values own bounds center has k l
    ∙ ap (λ (xs : List ℕ). ordered_value env c.args.terms.now xs points.row (points.col +ℤ pos k)) (take_all c.loop-i.i order least)
