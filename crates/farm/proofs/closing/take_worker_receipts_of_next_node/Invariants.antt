use Rattle.std.proofs.Common.{◌≡◌, length, map, take, drop}
use Rattle.std.specs.Vec.Iter.{into_iter_items, into_iter_len}
use Rattle.farm.specs.NodeEnds.{end_of}
use Rattle.live_nodes.specs.Ends.{HaveAllReceipts}
use Rattle.farm.proofs.closing.take_worker_receipts_of_next_node.Given as goal

abbrev pub invariant-loop : goal.invariant-loop
invariant-loop l =
    HaveAllReceipts l.mine.items
    × (into_iter_len l.initial.rest ≡ length (into_iter_items l.initial.rest)
    → (l.mine.items ≡ map end_of (take l.counter (into_iter_items l.initial.rest)))
    × (into_iter_items l.rest ≡ drop l.counter (into_iter_items l.initial.rest))
    × (into_iter_len l.rest ≡ length (into_iter_items l.rest)))
