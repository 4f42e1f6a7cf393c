use Rattle.std.proofs.Common.{◌≡◌, ◌+◌, ◌*◌}
use Rattle.std.specs.Prelude.{slice_index_or}
use Rattle.row_loops.specs.Rows.{EachPlace}
use Rattle.column_phases.proofs.weaving.weave_three_column_phases.Given as goal

abbrev pub invariant-loop-k : goal.invariant-loop-k
invariant-loop-k g l = record {
  first : (d : g.row.T.Denot) → EachPlace l.k (λ k. slice_index_or l.out (3 * k) d ≡ slice_index_or l.first k d);
  second : (d : g.row.T.Denot) → EachPlace l.k (λ k. slice_index_or l.out (3 * k + 1) d ≡ slice_index_or l.second k d);
  third : (d : g.row.T.Denot) → EachPlace l.k (λ k. slice_index_or l.out (3 * k + 2) d ≡ slice_index_or l.third k d);
}
