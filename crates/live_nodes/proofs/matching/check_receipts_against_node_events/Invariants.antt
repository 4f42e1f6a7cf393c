use Rattle.std.proofs.Common.{take, map}
use Rattle.live_nodes.specs.inside.Marks.{AreSeen}
use Rattle.live_nodes.proofs.matching.check_receipts_against_node_events.Given as goal

abbrev pub invariant-loop-list : goal.invariant-loop-list
invariant-loop-list g l = AreSeen l.history (map (λ list. list.1.items) (take l.list-index l.lists)) l.seen.items
