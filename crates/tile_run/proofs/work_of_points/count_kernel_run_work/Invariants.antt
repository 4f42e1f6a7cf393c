use Rattle.std.proofs.Common.{◌≡◌, ◌≤◌, ◌+◌, ◌-◌, ◌^◌, min, drop}
use Rattle.tile_run.specs.PointWork.{factors}
use Rattle.tile_run.proofs.work_of_points.count_kernel_run_work.Given as goal

abbrev pub invariant-loop-row : goal.invariant-loop-row
invariant-loop-row l =
    (l.count ≤ 2 ^ 64 - 1) × (min (l.count + factors (drop l.row-index l.kernel)) (2 ^ 64 - 1) ≡ min (factors l.kernel) (2 ^ 64 - 1))
