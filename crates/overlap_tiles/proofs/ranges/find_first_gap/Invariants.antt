use Rattle.std.proofs.Common.{◌≡◌, ◌≤◌, drop}
use Rattle.tile_boxes.specs.Costs.{most_scratch}
use Rattle.overlap_tiles.specs.inside.Made.{find_first_gap}
use Rattle.overlap_tiles.proofs.ranges.find_first_gap.Given as goal

abbrev pub invariant-loop-range : goal.invariant-loop-range
invariant-loop-range l = (find_first_gap l.len l.start (drop l.range-index l.held) ≡ find_first_gap l.len 0 l.held) × (l.start ≤ most_scratch)
