use Rattle.std.proofs.Common.{◌∙◌, sym}
use Rattle.std.proofs.lemmas.Result.{IfOk-weaker}
use Rattle.row_plans.proofs.Growing.{one_case}
use Rattle.row_plans.proofs.stage_rows_read.push_rows_read_in_case.Goals as goal

pub returns-in-Some : goal.returns-in-Some
returns-in-Some c =
    IfOk-weaker c.push_rows_read_by_reads.result _ _
    (λ all h. λ e. one_case _ _ c.args.case.now c.in-Some.area c.reads.result.now (sym c.area.ensures ∙ c.in-Some.is) c.reads.ensures (h e))
    c.push_rows_read_by_reads.ensures
