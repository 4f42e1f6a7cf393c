use Rattle.std.proofs.lemmas.Option.{IfSome_then}
use Rattle.std.proofs.lemmas.Result.{IfOk-weaker}
use Rattle.row_plans.proofs.row_state_repeats.list_repeated_row_state_windows.Goals as goal

pub returns-then-are_row_state_outputs_moved-clause-repeats : goal.returns-then-are_row_state_outputs_moved-clause-repeats
returns-then-are_row_state_outputs_moved-clause-repeats c = IfOk-weaker c.list_moved_row_state_windows.result _ _
    (λ found h. IfSome_then found h (λ windows k. λ states d moved len. record {
      reads = c.are_row_state_reads_moved.ensures c.if-are_row_state_reads_moved.true states d moved;
      outputs_moved = c.are_row_state_outputs_moved.ensures c.if-are_row_state_outputs_moved.true states d moved;
      left = k states d moved len;
    })) c.list_moved_row_state_windows.ensures.left
