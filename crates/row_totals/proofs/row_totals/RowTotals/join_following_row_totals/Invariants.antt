use Rattle.std.proofs.Common.{◌≡◌, List, drop}
use Rattle.row_totals.specs.Spans.{AreJoinedBy}
use Rattle.row_totals.specs.declared.row_total.RowTotal.{RowTotal}
use Rattle.row_totals.proofs.row_totals.RowTotals.join_following_row_totals.Given as goal

abbrev pub invariant-loop-place : goal.invariant-loop-place
invariant-loop-place l = record {
  job : l.self.job ≡ l.fn.self.job;
  joined : (new : List RowTotal) → AreJoinedBy l.self.totals.items (drop l.place l.others.totals.items) new
      → AreJoinedBy l.fn.self.totals.items l.others.totals.items new;
}
