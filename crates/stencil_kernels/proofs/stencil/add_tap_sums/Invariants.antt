use Rattle.std.proofs.Common.{◌≡◌, ◌≤◌, ◌+◌, ◌-◌, ◌+ℤ◌, ◌*ℤ◌, ℤ, length}
use Rattle.domains.specs.Arithmetic.{wrapped}
use Rattle.operators.specs.Values.{sum_below}
use Rattle.row_loops.specs.Rows.{EachPlace, at}
use Rattle.stencil_kernels.proofs.stencil.add_tap_sums.Given as goal

abbrev pub invariant-loop-b : goal.invariant-loop-b
invariant-loop-b l = record {
  within : l.b ≤ length l.factors;
  sums : EachPlace (length l.out) (λ k. (s : ℤ) → at l.initial.out k ≡ wrapped s
      → at l.out k ≡ wrapped (s +ℤ sum_below l.b (λ b. at l.factors b *ℤ at l.line (k + b))));
}

abbrev pub decreases-loop-b : goal.decreases-loop-b
decreases-loop-b l = length l.factors - l.b
