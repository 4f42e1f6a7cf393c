use Rattle.std.proofs.Common.{◌≡◌, ◌-◌}
use Rattle.std.specs.List.{range_with_len}
use Rattle.domains.specs.Pairs.{pairs}
use Rattle.domains.proofs.grid.Grid.cover.Given as goal

abbrev pub invariant-loop-i : goal.invariant-loop-i
invariant-loop-i l = l.tiles.items ≡ pairs (range_with_len l.initial.i (l.i - l.initial.i)) (range_with_len l.cols.0 (l.cols.1 - l.cols.0))
