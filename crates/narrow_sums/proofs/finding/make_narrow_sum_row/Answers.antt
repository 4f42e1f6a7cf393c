use Rattle.std.proofs.Common.{List, subst}
use Rattle.narrow_sums.specs.declared.terms.NarrowSumTerm.{NarrowSumTerm}
use Rattle.narrow_sums.specs.inside.TermOrders.{AreTermNumbers, HasSumOfAllTerms}
use Rattle.narrow_sums.specs.inside.NearTerms.{AreNear}
use Rattle.narrow_sums.proofs.finding.make_narrow_sum_row.Goals as goal

pub invariant_of-result : goal.invariant_of-result
invariant_of-result c = record {
  numbers = subst (λ (ts : List NarrowSumTerm). AreTermNumbers ts c.in_ok-order.order.items) c.deref-2.ensures.value c.in_ok-order.ensures.numbers;
  all = subst (λ (ts : List NarrowSumTerm). HasSumOfAllTerms ts c.in_ok-order.order.items) c.deref-2.ensures.value c.in_ok-order.ensures.all;
  near = λ x b here found. subst (AreNear x b) c.deref.ensures.value (c.find_narrow_sum_row_bounds-bounds.ensures x b here found);
}
