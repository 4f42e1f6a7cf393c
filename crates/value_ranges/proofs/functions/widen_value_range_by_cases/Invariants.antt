use Rattle.std.proofs.Common.{take}
use Rattle.std.specs.Prelude.{All}
use Rattle.job.specs.Views.{case_view}
use Rattle.value_ranges.specs.inside.Found.{IsWider, IsFoundCase}
use Rattle.value_ranges.proofs.functions.widen_value_range_by_cases.Given as goal

abbrev pub invariant-loop-case : goal.invariant-loop-case
invariant-loop-case l =
    IsWider l.fn.found l.all × All (λ p. IsFoundCase l.ranges (case_view p) l.all) (take l.case-index l.cases)
