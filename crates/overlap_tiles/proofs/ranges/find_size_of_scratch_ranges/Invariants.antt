use Rattle.std.proofs.Common.{◌≡◌, max, drop}
use Rattle.overlap_tiles.specs.inside.Made.{size_of}
use Rattle.overlap_tiles.proofs.ranges.find_size_of_scratch_ranges.Given as goal

abbrev pub invariant-loop-start : goal.invariant-loop-start
invariant-loop-start l = max l.size (size_of (drop l.start-index l.ranges)) ≡ size_of l.ranges
