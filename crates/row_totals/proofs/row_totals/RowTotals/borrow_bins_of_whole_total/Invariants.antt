use Rattle.std.proofs.Common.{◌≡◌, All, take}
use Rattle.row_totals.specs.Spans.{IsTotalOfAll}
use Rattle.row_totals.specs.declared.row_total.RowTotal.{RowTotal}
use Rattle.row_totals.proofs.row_totals.RowTotals.borrow_bins_of_whole_total.Given as goal

abbrev pub invariant-loop-place : goal.invariant-loop-place
invariant-loop-place l = All (λ (total : RowTotal). total.stage ≡ l.fn.stage → ¬ (IsTotalOfAll total)) (take l.place l.fn.self.totals.items)
