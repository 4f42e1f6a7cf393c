use Rattle.std.proofs.Common.{◌≡◌, ◌-◌, ◌++◌, map}
use Rattle.std.specs.List.{range_with_len}
use Rattle.domains.proofs.grid.push_tiles_of_grid_row.Given as goal

abbrev pub invariant-loop-j : goal.invariant-loop-j
invariant-loop-j l = l.tiles.items ≡ l.initial.tiles.items ++ map (λ j. (l.fn.i, j)) (range_with_len l.fn.cols.0 (l.j - l.fn.cols.0))
