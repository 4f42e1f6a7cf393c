use Rattle.std.proofs.Common.{◌≡◌, ◌+◌, ◌≤◌, map, drop}
use Rattle.std.specs.Prelude.{fold}
use Rattle.domains.specs.Area.{point_count}
use Rattle.tile_boxes.specs.Costs.{points_in, most_scratch}
use Rattle.overlap_tiles.specs.Views.{step_view}
use Rattle.overlap_tiles.proofs.steps.sum_points_within_scratch_limit.Given as goal

abbrev pub invariant-loop-step : goal.invariant-loop-step
invariant-loop-step l =
    (fold (λ a n. a + n) l.total (map (λ s. point_count s.1) (map step_view (drop l.step-index l.steps)))
    ≡ points_in (map step_view l.steps)) × (l.total ≤ most_scratch)
