use Rattle.std.proofs.Common.{◌∙◌, sym}
use Rattle.std.proofs.lemmas.Option.{IfSome_then}
use Rattle.std.proofs.lemmas.Result.{IfOk-weaker}
use Rattle.row_plans.proofs.Growing.{any_ok, no_rows, stage_reads}
use Rattle.row_plans.proofs.stage_rows_read.list_rows_read_of_stage.Goals as goal

pub returns-in-Function : goal.returns-in-Function
returns-in-Function c =
    IfOk-weaker c.list_rows_read_of_function.result _ _
    (λ found h. IfSome_then found h
    (λ reads taken. stage_reads c.args.stage.now c.in-Function.formulas reads.items (sym c.body.ensures ∙ c.in-Function.is) (rw c.domain.ensures at taken)))
    c.list_rows_read_of_function.ensures

pub returns-in-Accumulator : goal.returns-in-Accumulator
returns-in-Accumulator c =
    any_ok c.list_rows_read_of_accumulator.result
    (λ reads. no_rows c.args.stage.now c.in-Accumulator.accumulator reads.items (sym c.body.ensures ∙ c.in-Accumulator.is))
