use Rattle.std.proofs.Common.{◌≡◌}
use Rattle.tile_boxes.specs.Tallies.{list_tile_columns}
use Rattle.tile_boxes.proofs.costs.list_tile_columns.Given as goal

abbrev pub invariant-loop-j : goal.invariant-loop-j
invariant-loop-j l = l.columns.items ≡ list_tile_columns l.grid l.j
