use Rattle.std.proofs.Common.{◌≡◌, ℕ, ◌≤◌, ◌+ℤ◌}
use Rattle.domains.specs.Arithmetic.{wrapped}
use Rattle.row_loops.specs.Rows.{EachPlace, at}
use Rattle.stencil_kernels.specs.Stencil.{tap_sum}
use Rattle.stencil_kernels.proofs.symmetric.SymmetricFactors.add_symmetric_product_sums.Given as goal

abbrev pub invariant-loop-k : goal.invariant-loop-k
invariant-loop-k l = record {
  done : EachPlace l.k (λ k. at l.out k ≡ wrapped (at l.initial.out k +ℤ wrapped (tap_sum l.self l.line k)));
  ahead : (k : ℕ) → l.k ≤ k → at l.out k ≡ at l.initial.out k;
}
