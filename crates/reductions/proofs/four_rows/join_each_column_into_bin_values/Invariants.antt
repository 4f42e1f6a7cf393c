use Rattle.std.proofs.Common.{ℕ, ◌≡◌, ◌<◌, pos}
use Rattle.std.specs.Prelude.{slice_index}
use Rattle.job.specs.Totals.{joined}
use Rattle.reductions.specs.inside.FourRows.{column_joined}
use Rattle.reductions.proofs.four_rows.join_each_column_into_bin_values.Given as goal

-- the columns so far are joined
abbrev pub invariant-loop-k : goal.invariant-loop-k
invariant-loop-k l =
    let upper = l.rows.upper in
    let lower = l.rows.lower in
    (i : ℕ) → i < l.k → pos (slice_index l.joined i)
    ≡ joined l.op (column_joined l.op upper.first.now upper.second.now upper.third.now upper.fourth.now i)
    (column_joined l.op lower.first.now lower.second.now lower.third.now lower.fourth.now i)
