use Rattle.std.proofs.Common.{◌≡◌, ◌++◌, map, drop}
use Rattle.tile_boxes.specs.Tallies.{area_of}
use Rattle.tile_boxes.proofs.costs.push_tile_areas_of_row.Given as goal

abbrev pub invariant-loop-cols : goal.invariant-loop-cols
invariant-loop-cols l =
    l.areas.items ++ map (area_of l.rows) (drop l.cols-index l.columns) ≡ l.fn.areas.items ++ map (area_of l.rows) l.columns
