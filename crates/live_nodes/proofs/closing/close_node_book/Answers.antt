use Rattle.std.proofs.Common.{sym, ◌∙◌}
use Rattle.live_nodes.proofs.EndLaws.{same_account}
use Rattle.live_nodes.proofs.closing.close_node_book.Goals as goal

pub returns-clause-receipts : goal.returns-clause-receipts
returns-clause-receipts g c =
    same_account c.history.result.now _ c.as_slice.result.now _ (c.into_state_and_history-state.ensures.events ∙ sym c.history.ensures.events)
    c.as_slice.ensures.value c.in_default.ensures.ok
