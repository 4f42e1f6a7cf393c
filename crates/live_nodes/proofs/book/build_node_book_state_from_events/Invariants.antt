use Rattle.std.proofs.Common.{◌≡◌, take}
use Rattle.live_nodes.specs.Books.{updates_in}
use Rattle.live_nodes.specs.Updates.{state_of}
use Rattle.live_nodes.proofs.book.build_node_book_state_from_events.Given as goal

abbrev pub invariant-loop-event : goal.invariant-loop-event
invariant-loop-event g l = l.state ≡ state_of (updates_in (take l.event-index l.events))
