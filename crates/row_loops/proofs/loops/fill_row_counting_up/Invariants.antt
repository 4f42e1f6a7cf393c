use Rattle.std.proofs.Common.{◌≡◌, ℕ, ◌≤◌, ◌+ℤ◌, pos}
use Rattle.row_loops.specs.Rows.{EachPlace, at}
use Rattle.row_loops.proofs.loops.fill_row_counting_up.Given as goal

abbrev pub invariant-loop-k : goal.invariant-loop-k
invariant-loop-k l = record {
  done : EachPlace l.k (λ k. at l.out k ≡ l.first +ℤ pos k);
  ahead : (k : ℕ) → l.k ≤ k → at l.out k ≡ at l.initial.out k;
  next : l.next ≡ l.first +ℤ pos l.k;
}
