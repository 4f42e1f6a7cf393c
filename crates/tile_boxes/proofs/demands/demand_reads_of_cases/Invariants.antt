use Rattle.std.proofs.Common.{◌≡◌, drop, map}
use Rattle.std.specs.List.{flat_map}
use Rattle.job.specs.Views.{case_view}
use Rattle.tile_boxes.specs.Demands.{case_demands}
use Rattle.tile_boxes.specs.Walks.{demanded_all}
use Rattle.tile_boxes.proofs.demands.demand_reads_of_cases.Given as goal

abbrev pub invariant-loop-case : goal.invariant-loop-case
invariant-loop-case l =
    demanded_all l.hulls (flat_map (case_demands l.region) (map case_view (drop l.case-index l.cases)))
    ≡ demanded_all l.fn.hulls (flat_map (case_demands l.region) (map case_view l.cases))
