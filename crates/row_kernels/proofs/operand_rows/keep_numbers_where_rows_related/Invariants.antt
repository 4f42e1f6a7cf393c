use Rattle.std.proofs.Common.{◌≡◌, ℕ, ◌≤◌}
use Rattle.std.specs.Prelude.{if◌then◌else◌}
use Rattle.row_loops.specs.Rows.{EachPlace, at}
use Rattle.row_kernels.proofs.operand_rows.keep_numbers_where_rows_related.Given as goal

abbrev pub invariant-loop-k : goal.invariant-loop-k
invariant-loop-k g l = record {
  done : EachPlace l.k (λ k. at l.out k
      ≡ if g.R.PairMap.value l.relate (at l.left k) (g.V.RowNumbers.number l.right k) then at l.initial.out k
      else g.W.RowNumbers.number l.other k);
  ahead : (k : ℕ) → l.k ≤ k → at l.out k ≡ at l.initial.out k;
}
