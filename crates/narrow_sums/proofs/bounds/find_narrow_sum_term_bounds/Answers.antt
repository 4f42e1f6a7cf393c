use Rattle.std.proofs.Common.{rules, All, IsTrue, List, subst}
use Rattle.std.proofs.lemmas.List.{take_all}
use Rattle.narrow_sums.specs.declared.terms.NarrowSumTerm.{NarrowSumTerm}
use Rattle.narrow_sums.specs.inside.NearTerms.{IsNear}
use Rattle.narrow_sums.proofs.NearLaws.{near_more}
use Rattle.narrow_sums.proofs.bounds.find_narrow_sum_term_bounds.Goals as goal

pub loop-k-preserved : goal.loop-k-preserved
loop-k-preserved c =
    let is : IsTrue c.is_near_narrow_sum_part.result = search rules in
    near_more c.args.center.now c.in_ok-bounds.bounds c.args.terms.now c.loop-k.k c.index-terms-k.result c.loop-k-test.true
    c.loop-k.invariant (c.is_near_narrow_sum_part.ensures is)

pub returns : goal.returns
returns c = (
  c.in_ok-bounds.ensures.0,
  c.in_ok-bounds.ensures.1,
  subst (λ (ts : List NarrowSumTerm). All (λ t. IsNear c.args.center.now c.in_ok-bounds.bounds t.part) ts)
      (take_all c.loop-k.k c.args.terms.now c.loop-k-test.false) c.loop-k.invariant,
)
