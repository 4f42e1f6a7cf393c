use Rattle.std.proofs.Common.{◌≡◌, All, filter, map, take}
use Rattle.job.specs.Kept.{pipeline_in}
use Rattle.row_totals.specs.RowTotals.{is_summed}
use Rattle.row_totals.specs.Spans.{stage_of_total, IsTotalOfNone}
use Rattle.row_totals.proofs.row_totals.RowTotals.new.Given as goal

abbrev pub invariant-loop-stage : goal.invariant-loop-stage
invariant-loop-stage l = record {
  job : l.totals.job.now ≡ l.fn.job;
  stages : map stage_of_total l.totals.totals.items ≡ filter (is_summed (pipeline_in l.fn.job)) (take l.stage-index l.stages);
  none : All (IsTotalOfNone l.first) l.totals.totals.items;
}
