use Rattle.std.proofs.Common.{map, take}
use Rattle.std.specs.List.{AllZip}
use Rattle.job.specs.Views.{case_view}
use Rattle.normal_jobs.specs.StandIns.{StandsForCase}
use Rattle.normal_jobs.proofs.cases.make_normal_cases.Given as goal

abbrev pub invariant-loop-case : goal.invariant-loop-case
invariant-loop-case l = AllZip (StandsForCase l.known) (map case_view (take l.case-index l.cases)) (map case_view l.made.items)
