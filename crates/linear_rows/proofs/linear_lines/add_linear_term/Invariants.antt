use Rattle.std.proofs.Common.{◌≡◌, ◌+ℤ◌, ◌≤◌, ℕ}
use Rattle.domains.specs.Arithmetic.{wrapped}
use Rattle.row_loops.specs.Rows.{EachPlace, at}
use Rattle.linear_rows.proofs.linear_lines.add_linear_term.Given as goal

abbrev pub invariant-loop-k : goal.invariant-loop-k
invariant-loop-k g l = record {
  done : EachPlace l.k (λ k. at l.out k ≡ wrapped (at l.initial.out k +ℤ g.T.LinearTerm.exact l.term k));
  ahead : (k : ℕ) → l.k ≤ k → at l.out k ≡ at l.initial.out k;
}
