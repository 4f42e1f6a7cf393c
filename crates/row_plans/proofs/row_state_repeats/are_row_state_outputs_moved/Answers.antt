use Rattle.std.proofs.Common.{◌≡◌}
use Rattle.std.proofs.lemmas.List.{take_all}
use Rattle.std.proofs.lemmas.List.Elements.{All-more}
use Rattle.row_plans.proofs.row_state_repeats.are_row_state_outputs_moved.Goals as goal

pub loop-output-preserved : goal.loop-output-preserved
loop-output-preserved c = λ states d moved.
    All-more (λ o. d o ≡ c.args.height) c.args.outputs.now c.loop-output.output-index 0 c.loop-output-test.true (c.loop-output.invariant states d moved)
    (c.has_row_state_moved_by.ensures c.if-not-has_row_state_moved_by.false states d moved)

pub returns : goal.returns
returns c = λ _ states d moved.
    rw (take_all c.loop-output.output-index c.args.outputs.now c.loop-output-test.false) at (c.loop-output.invariant states d moved)
