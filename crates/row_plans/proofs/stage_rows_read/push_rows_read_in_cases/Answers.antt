use Rattle.std.proofs.Common.{arith, rules}
use Rattle.row_plans.proofs.Growing.{cases_more}
use Rattle.row_plans.proofs.stage_rows_read.push_rows_read_in_cases.Goals as goal

pub loop-case-preserved : goal.loop-case-preserved
loop-case-preserved c =
    cases_more _ _ _ c.args.cases.now c.loop-case.case-index c.case-item.result c.loop-case.invariant (omega arith) c.case-item.is
    (c.in_ok-push_rows_read_in_case.ensures (search rules))
