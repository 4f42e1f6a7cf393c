use Rattle.std.proofs.Common.{◌≡◌, ◌++◌, take, drop}
use Rattle.overlap_tiles.specs.declared.ranges.HeldRange.{HeldRange}
use Rattle.overlap_tiles.specs.inside.Made.{with_held}
use Rattle.overlap_tiles.proofs.ranges.find_scratch_range_position.Given as goal

abbrev pub invariant-loop-place : goal.invariant-loop-place
invariant-loop-place l =
    (new : HeldRange) → new.start ≡ l.start → take l.place l.held ++ with_held new (drop l.place l.held) ≡ with_held new l.held
