use Rattle.std.proofs.Common.{◌≡◌, map, take}
use Rattle.job.specs.Views.{case_view}
use Rattle.narrow_eval.specs.NarrowPrograms.{program_case}
use Rattle.narrow_eval.proofs.narrow_choosing.choose_narrow_cases.Given as goal

abbrev pub invariant-loop-case : goal.invariant-loop-case
invariant-loop-case l = map program_case l.made.items ≡ map case_view (take l.case-index l.cases)
