use Rattle.std.proofs.Common.{◌≡◌, ◌≤◌, ◌+◌, ◌-◌, ◌^◌, min, map, drop}
use Rattle.std.specs.List.{sum}
use Rattle.job.specs.Views.{case_view}
use Rattle.tile_run.specs.PointWork.{work_of_case}
use Rattle.tile_run.proofs.work_of_points.count_cases_run_work.Given as goal

abbrev pub invariant-loop-case : goal.invariant-loop-case
invariant-loop-case l =
    (l.work ≤ 2 ^ 64 - 1) × (min (l.work + sum (map work_of_case (map case_view (drop l.case-index l.cases)))) (2 ^ 64 - 1)
    ≡ min (sum (map work_of_case (map case_view l.cases))) (2 ^ 64 - 1))
