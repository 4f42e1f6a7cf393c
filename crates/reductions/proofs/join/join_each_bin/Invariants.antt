use Rattle.std.proofs.Common.{◌≡◌, ℕ, ◌≤◌}
use Rattle.job.specs.Totals.{joined}
use Rattle.tile_eval.specs.Rows.{EachPlace, at}
use Rattle.reductions.proofs.join.join_each_bin.Given as goal

abbrev pub invariant-loop-k : goal.invariant-loop-k
invariant-loop-k l = record {
  done : EachPlace l.k (λ k. at l.bins k ≡ joined l.fn.op (at l.initial.bins k) (at l.others k));
  ahead : (k : ℕ) → l.k ≤ k → at l.bins k ≡ at l.initial.bins k;
}
