use Rattle.std.proofs.Common.{ℕ, ◌≡◌, ◌+◌, ◌≤◌, ◌++◌, map, drop}
use Rattle.tile_boxes.specs.Costs.{points_in, most_scratch}
use Rattle.overlap_tiles.specs.inside.Made.{laid, laid_of, range_of, ranges_by}
use Rattle.overlap_tiles.specs.Views.{step_view}
use Rattle.overlap_tiles.proofs.Gaps.{EndBy}
use Rattle.overlap_tiles.proofs.ranges.assign_scratch_ranges.Given as goal

abbrev pub invariant-loop-place : goal.invariant-loop-place
invariant-loop-place l =
    record {
      ranges : l.ranges.items ++ map range_of (laid l.place l.held.items (map (laid_of l.lasts) (map step_view (drop l.place l.steps))))
          ≡ ranges_by l.lasts (map step_view l.steps);
      few : (n : ℕ) × EndBy n l.held.items × (n + points_in (map step_view (drop l.place l.steps)) ≤ most_scratch);
    }
