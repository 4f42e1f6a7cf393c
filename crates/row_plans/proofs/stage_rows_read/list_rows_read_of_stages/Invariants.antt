use Rattle.std.proofs.Common.{◌≡◌, All, map, take}
use Rattle.job.specs.Views.{stage_view}
use Rattle.row_plans.specs.Taken.{AreRowsReadOf}
use Rattle.row_plans.proofs.stage_rows_read.list_rows_read_of_stages.Given as goal

abbrev pub invariant-loop-stage : goal.invariant-loop-stage
invariant-loop-stage l =
    (map (λ x. stage_view x.stage.now) l.list.items ≡ map stage_view (take l.stage-index l.stage-items))
    × All (λ x. AreRowsReadOf (stage_view x.stage.now) x.reads.items) l.list.items
