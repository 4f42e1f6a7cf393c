use Rattle.std.proofs.Common.{◌≡◌, ℕ, ◌≤◌, ◌+ℤ◌, pos}
use Rattle.std.specs.Prelude.{if◌then◌else◌, map}
use Rattle.operators.specs.Values.{all_passed}
use Rattle.operators.specs.Views.{test_view}
use Rattle.row_loops.specs.Rows.{EachPlace, at}
use Rattle.narrow_kernels.proofs.narrow_masks.copy_narrow_row_by_points.Given as goal

abbrev pub invariant-loop-k : goal.invariant-loop-k
invariant-loop-k l = record {
  done : EachPlace l.k (λ k. at l.out k ≡ if all_passed (map test_view l.fn.tests) l.fn.points.row (l.fn.points.col +ℤ pos k)
      then at l.fn.other k else at l.initial.out k);
  ahead : (k : ℕ) → l.k ≤ k → at l.out k ≡ at l.initial.out k;
}
