use Rattle.std.proofs.Common.{◌≡◌, ◌++◌, drop}
use Rattle.std.specs.List.{flat_map}
use Rattle.tile_boxes.specs.Walks.{target_of, numbered_hull}
use Rattle.tile_boxes.proofs.target.BoxWalk.list_needed_boxes.Given as goal

abbrev pub invariant-loop-number : goal.invariant-loop-number
invariant-loop-number l =
    l.found.items ++ flat_map (numbered_hull (target_of l.self) l.hulls) (drop l.number-index l.order) ≡ flat_map
    (numbered_hull (target_of l.self) l.hulls) l.order
