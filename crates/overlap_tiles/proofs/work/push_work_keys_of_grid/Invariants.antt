use Rattle.std.proofs.Common.{◌≡◌, ◌++◌}
use Rattle.std.specs.List.{flat_map, range_with_len}
use Rattle.overlap_tiles.specs.inside.Keyed.{row_keys}
use Rattle.overlap_tiles.proofs.work.push_work_keys_of_grid.Given as goal

abbrev pub invariant-loop-row : goal.invariant-loop-row
invariant-loop-row l = l.keys.items ≡ l.fn.keys.items ++ flat_map (row_keys l.first l.cols) (range_with_len 0 l.row)
