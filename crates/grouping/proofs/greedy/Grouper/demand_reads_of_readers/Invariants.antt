use Rattle.std.proofs.Common.{◌≡◌, drop}
use Rattle.std.specs.List.{flat_map}
use Rattle.tile_boxes.specs.Targets.{box, demands_by}
use Rattle.tile_boxes.specs.Walks.{target_of, demanded_all}
use Rattle.grouping.proofs.greedy.Grouper.demand_reads_of_readers.Given as goal

abbrev pub invariant-loop-reader : goal.invariant-loop-reader
invariant-loop-reader l =
    demanded_all l.hulls (flat_map (demands_by (target_of l.walk) (box (target_of l.walk))) (drop l.reader-index l.readers))
    ≡ demanded_all l.fn.hulls (flat_map (demands_by (target_of l.walk) (box (target_of l.walk))) l.readers)
