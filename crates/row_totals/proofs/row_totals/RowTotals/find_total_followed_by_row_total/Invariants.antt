use Rattle.std.proofs.Common.{All, take}
use Rattle.row_totals.specs.Spans.{IsFollowedBy}
use Rattle.row_totals.specs.declared.row_total.RowTotal.{RowTotal}
use Rattle.row_totals.proofs.row_totals.RowTotals.find_total_followed_by_row_total.Given as goal

abbrev pub invariant-loop-place : goal.invariant-loop-place
invariant-loop-place l = All (λ (total : RowTotal). ¬ (IsFollowedBy total l.fn.other)) (take l.place l.fn.self.totals.items)
