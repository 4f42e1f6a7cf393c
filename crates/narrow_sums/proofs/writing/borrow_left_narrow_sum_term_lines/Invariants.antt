use Rattle.std.proofs.Common.{◌≡◌, ◌+ℤ◌, pos, length, take}
use Rattle.row_loops.specs.Rows.{EachPlace}
use Rattle.narrow_kernels.specs.declared.narrow_centers.NarrowCenter.{NarrowCenter}
use Rattle.narrow_kernels.specs.NarrowTaps.{HaveTapLines}
use Rattle.narrow_kernels.specs.NarrowCenters.{centered_tap_sum}
use Rattle.narrow_sums.specs.declared.terms.NarrowSumRead.{NarrowSumRead}
use Rattle.narrow_sums.specs.declared.terms.NarrowSumBounds.{NarrowSumBounds}
use Rattle.narrow_sums.specs.inside.TermOrders.{ordered_value}
use Rattle.narrow_sums.specs.inside.NearTerms.{IsNearSum}
use Rattle.narrow_sums.proofs.writing.borrow_left_narrow_sum_term_lines.Given as goal

abbrev pub invariant-loop-i : goal.invariant-loop-i
invariant-loop-i g l = record {
  space : length l.lines ≡ 8;
  lines : HaveTapLines l.fn.points.len (take l.i l.lines);
  values : (own : NarrowSumRead) (bounds : NarrowSumBounds) (center : NarrowCenter)
      → IsNearSum (g.S.NarrowSource.samples l.fn.source) l.fn.points.row l.fn.points.col l.fn.points.len own bounds center l.fn.terms
      → EachPlace l.fn.points.len (λ k. centered_tap_sum center (take l.i l.lines) k
      ≡ ordered_value (g.S.NarrowSource.samples l.fn.source) l.fn.terms (take l.i l.fn.order) l.fn.points.row (l.fn.points.col +ℤ pos k));
}
