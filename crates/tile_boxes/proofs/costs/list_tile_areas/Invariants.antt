use Rattle.std.proofs.Common.{◌≡◌}
use Rattle.std.specs.List.{flat_map, range_with_len}
use Rattle.domains.specs.Tiles.{tile_cols}
use Rattle.tile_boxes.specs.Tallies.{row_areas}
use Rattle.tile_boxes.proofs.costs.list_tile_areas.Given as goal

abbrev pub invariant-loop-i : goal.invariant-loop-i
invariant-loop-i l = l.areas.items ≡ flat_map (λ i. row_areas l.grid i (tile_cols l.grid)) (range_with_len 0 l.i)
