use Rattle.std.proofs.Common.{take}
use Rattle.live_nodes.proofs.SeenReceipts.{Goes}
use Rattle.live_nodes.proofs.matching.check_and_mark_node_events_of_receipts.Given as goal

abbrev pub invariant-loop-receipt : goal.invariant-loop-receipt
invariant-loop-receipt l = Goes l.history (take l.receipt-index l.receipts) l.least l.initial.seen l.seen
