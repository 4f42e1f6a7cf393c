use Rattle.std.proofs.Common.{◌≡◌, ◌%◌, ℕ, ◌≤◌}
use Rattle.std.specs.Prelude.{if◌then◌else◌, ◌==◌}
use Rattle.row_loops.specs.Rows.{EachPlace, at}
use Rattle.narrow_kernels.proofs.narrow_masks.copy_narrow_places_with_remainder_by_two.Given as goal

abbrev pub invariant-loop-k : goal.invariant-loop-k
invariant-loop-k l = record {
  done : EachPlace l.k (λ k. at l.out k ≡ if k % 2 == l.first then at l.other k else at l.initial.out k);
  ahead : (k : ℕ) → l.k ≤ k → at l.out k ≡ at l.initial.out k;
}
