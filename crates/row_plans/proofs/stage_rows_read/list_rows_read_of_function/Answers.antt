use Rattle.row_plans.proofs.Growing.{function_reads}
use Rattle.row_plans.proofs.stage_rows_read.list_rows_read_of_function.Goals as goal

pub returns : goal.returns
returns c = λ states g r col held all.
    let reads = c.in_ok-push_rows_read_by_reads.ensures c.if-not-branch-2.false in
    let cases = c.in_ok-push_rows_read_in_cases.ensures c.if-not-branch.false in
    function_reads states g r col _ _ c.otherwise_reads.result.now c.otherwise_reads.ensures
    (rw c.cases.ensures at (cases.taken states g r col (reads.wider states g r all))) (reads.taken states g r col held all)
