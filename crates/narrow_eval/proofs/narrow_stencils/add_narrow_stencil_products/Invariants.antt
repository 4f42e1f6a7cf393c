use Rattle.std.proofs.Common.{ℕ, ℤ, ◌+ℤ◌, length}
use Rattle.narrow_eval.specs.NarrowStencils.{line_total}
use Rattle.narrow_sums.specs.NarrowSums.{HasAddends, GivesSum}
use Rattle.narrow_eval.proofs.narrow_stencils.add_narrow_stencil_products.Given as goal

abbrev pub invariant-loop-b : goal.invariant-loop-b
invariant-loop-b l =
    HasAddends (length l.out) l.sum
    × ((f : ℕ → ℤ) → GivesSum (length l.out) f l.fn.sum l.fn.out
    → GivesSum (length l.out) (λ k. f k +ℤ line_total l.b l.factors l.line k) l.sum l.out)
