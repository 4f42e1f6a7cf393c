use Rattle.std.proofs.Common.{◌≡◌, ℕ, ◌≤◌}
use Rattle.row_loops.specs.Rows.{EachPlace, at}
use Rattle.row_loops.proofs.loops.write_combination_of_three_rows.Given as goal

abbrev pub invariant-loop-k : goal.invariant-loop-k
invariant-loop-k g l = record {
  done : EachPlace l.k (λ k. at l.out k
      ≡ g.Q.PairMap.value l.outer (g.P.PairMap.value l.inner (at l.first k) (at l.second k)) (at l.third k));
  ahead : (k : ℕ) → l.k ≤ k → at l.out k ≡ at l.initial.out k;
}
