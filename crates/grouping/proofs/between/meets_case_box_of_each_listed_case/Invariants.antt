use Rattle.std.proofs.Common.{◌≡◌, map, drop}
use Rattle.std.specs.List.{list_all}
use Rattle.job.specs.Pipeline.{JobCase}
use Rattle.job.specs.Views.{case_view}
use Rattle.grouping.specs.inside.Between.{meets_case_box}
use Rattle.grouping.proofs.between.meets_case_box_of_each_listed_case.Given as goal

abbrev pub invariant-loop-case : goal.invariant-loop-case
invariant-loop-case l =
    list_all (λ (p : JobCase). meets_case_box l.region p.box) (map case_view (drop l.case-index l.cases))
    ≡ list_all (λ (p : JobCase). meets_case_box l.region p.box) (map case_view l.cases)
