use Rattle.std.proofs.Common.{◌≡◌, ℕ, ◌≤◌}
use Rattle.row_loops.specs.Rows.{EachPlace, at}
use Rattle.narrow_kernels.proofs.narrow_trees.write_narrow_tree.Given as goal

abbrev pub invariant-loop-k : goal.invariant-loop-k
invariant-loop-k g l = record {
  done : EachPlace l.k (λ k. at l.out k ≡ g.T.NarrowTree.value l.tree (at l.initial.out k) k);
  ahead : (k : ℕ) → l.k ≤ k → at l.out k ≡ at l.initial.out k;
}
