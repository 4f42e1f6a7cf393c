use Rattle.std.proofs.Common.{◌+◌, List, map, take, subst, sym}
use Rattle.std.specs.List.{AllZip}
use Rattle.job.specs.Views.{case_view}
use Rattle.job.specs.declared.stage.JobCase.{JobCase as KeptCase}
use Rattle.normal_jobs.specs.StandIns.{StandsForCase}
use Rattle.normal_jobs.proofs.Zipped.{zip_more}
use Rattle.normal_jobs.proofs.cases.make_normal_cases.Goals as goal

pub loop-case-preserved : goal.loop-case-preserved
loop-case-preserved c =
    let given : List KeptCase = c.args.cases.now in
    subst (λ (made : List KeptCase). AllZip (StandsForCase c.args.known.now) (map case_view (take (c.loop-case.case-index + 1) given)) (map case_view made))
    (sym c.in_ok-push.ensures.items)
    (zip_more (StandsForCase c.args.known.now) case_view given c.loop-case.made.items c.loop-case.case-index c.case-item.result c.in_ok-make_normal_case.field-0
    c.loop-case-test.true c.case-item.is c.loop-case.invariant c.in_ok-make_normal_case.ensures)
