use Rattle.std.proofs.Common.{◌≡◌, ◌++◌}
use Rattle.overlap_tiles.specs.inside.Keyed.{row_keys}
use Rattle.overlap_tiles.proofs.work.push_work_keys_of_tile_row.Given as goal

abbrev pub invariant-loop-col : goal.invariant-loop-col
invariant-loop-col l = l.keys.items ≡ l.fn.keys.items ++ row_keys l.first l.col l.row
