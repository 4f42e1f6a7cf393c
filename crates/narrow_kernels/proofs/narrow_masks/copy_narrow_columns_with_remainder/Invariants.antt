use Rattle.std.proofs.Common.{◌≡◌, ◌-◌, ℕ, ◌≤◌, ◌<◌, length, ◌+ℤ◌, pos}
use Rattle.std.specs.Prelude.{if◌then◌else◌}
use Rattle.std.specs.Ordering.{int_eq}
use Rattle.domains.specs.Arithmetic.{floor_rem}
use Rattle.row_loops.specs.Rows.{at}
use Rattle.narrow_kernels.proofs.narrow_masks.copy_narrow_columns_with_remainder.Given as goal

abbrev pub invariant-loop-k : goal.invariant-loop-k
invariant-loop-k l = record {
  done : (j : ℕ) → j < l.k → j < length l.out
      → at l.out j ≡ if int_eq (floor_rem (l.fn.points.col +ℤ pos j) (pos l.modulus)) (pos l.rest) then at l.other j
      else at l.initial.out j;
  ahead : (j : ℕ) → l.k ≤ j → at l.out j ≡ at l.initial.out j;
  here : floor_rem (l.fn.points.col +ℤ pos l.k) (pos l.modulus) ≡ pos l.rest;
}

abbrev pub decreases-loop-k : goal.decreases-loop-k
decreases-loop-k l = length l.out - l.k
