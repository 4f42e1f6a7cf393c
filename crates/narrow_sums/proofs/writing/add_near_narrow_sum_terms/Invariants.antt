use Rattle.std.proofs.Common.{ℤ, ◌≡◌, ◌-◌, ◌≤◌, ◌+ℤ◌, pos, w16, length, take}
use Rattle.std.specs.Int.{int_wrap}
use Rattle.row_loops.specs.Rows.{EachPlace, at}
use Rattle.narrow_sums.specs.declared.terms.NarrowSumRead.{NarrowSumRead}
use Rattle.narrow_sums.specs.declared.terms.NarrowSumBounds.{NarrowSumBounds}
use Rattle.narrow_sums.specs.inside.TermOrders.{ordered_value}
use Rattle.narrow_sums.specs.inside.NearTerms.{IsNearSum}
use Rattle.narrow_sums.proofs.writing.add_near_narrow_sum_terms.Given as goal

abbrev pub invariant-loop-start : goal.invariant-loop-start
invariant-loop-start g l = record {
  within : l.start ≤ length l.fn.order;
  sums : (own : NarrowSumRead) (bounds : NarrowSumBounds)
      → IsNearSum (g.S.NarrowSource.samples l.fn.source) l.fn.points.row l.fn.points.col l.fn.points.len own bounds l.fn.center l.fn.terms
      → EachPlace (length l.fn.out) (λ k. (s : ℤ) → at l.fn.out k ≡ int_wrap w16 s
      → at l.out k ≡ int_wrap w16 (s +ℤ ordered_value (g.S.NarrowSource.samples l.fn.source) l.fn.terms (take l.start l.fn.order)
      l.fn.points.row (l.fn.points.col +ℤ pos k)));
}

abbrev pub decreases-loop-start : goal.decreases-loop-start
decreases-loop-start g l = length l.fn.order - l.start
