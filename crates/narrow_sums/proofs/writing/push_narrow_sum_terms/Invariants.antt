use Rattle.std.proofs.Common.{ℕ, ℤ, ◌+ℤ◌, pos, length, take}
use Rattle.narrow_sums.specs.NarrowSums.{HasAddends, GivesSum}
use Rattle.narrow_sums.specs.inside.TermOrders.{ordered_value}
use Rattle.narrow_sums.proofs.writing.push_narrow_sum_terms.Given as goal

abbrev pub invariant-loop-k : goal.invariant-loop-k
invariant-loop-k g l = record {
  addends : HasAddends (length l.fn.out) l.sum;
  sum : (f : ℕ → ℤ) → GivesSum (length l.fn.out) f l.fn.sum l.fn.out
      → GivesSum (length l.fn.out) (λ k. f k +ℤ ordered_value (g.S.NarrowSource.samples l.fn.source) l.fn.terms (take l.k l.fn.order)
      l.fn.points.row (l.fn.points.col +ℤ pos k)) l.sum l.out;
}
