use Rattle.std.proofs.Common.{◌≡◌, ℕ, ◌≤◌}
use Rattle.row_loops.specs.Rows.{EachPlace, at}
use Rattle.narrow_kernels.proofs.narrow_conversions.narrow_row_of_wide_numbers.Given as goal

abbrev pub invariant-loop-k : goal.invariant-loop-k
invariant-loop-k l = record {
  done : EachPlace l.k (λ k. at l.out k ≡ at l.line k);
  ahead : (k : ℕ) → l.k ≤ k → at l.out k ≡ at l.initial.out k;
}
