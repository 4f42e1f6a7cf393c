use Rattle.std.proofs.Common.{arith}
use Rattle.std.proofs.lemmas.List.{take_all}
use Rattle.std.proofs.lemmas.List.Elements.{All-more}
use Rattle.row_plans.specs.Leads.{IsOutputRowKept}
use Rattle.row_plans.proofs.row_plan_check.is_planned_row_kept_for_all_outputs.Goals as goal

pub loop-output-preserved : goal.loop-output-preserved
loop-output-preserved c = λ states are.
    All-more (IsOutputRowKept states c.args.row) c.args.outputs.now c.loop-output.output-index 0 c.loop-output-test.true (c.loop-output.invariant states are)
    (c.is_planned_row_kept_for_output.ensures c.if-not-is_planned_row_kept_for_output.false states are)

pub returns : goal.returns
returns c = λ _ states are.
    rw (take_all c.loop-output.output-index c.args.outputs.now (omega arith)) at (c.loop-output.invariant states are)
