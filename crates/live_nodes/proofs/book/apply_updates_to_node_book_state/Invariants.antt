use Rattle.std.proofs.Common.{◌≡◌, take}
use Rattle.live_nodes.specs.Updates.{with_updates}
use Rattle.live_nodes.proofs.book.apply_updates_to_node_book_state.Given as goal

abbrev pub invariant-loop-update : goal.invariant-loop-update
invariant-loop-update g l = l.state ≡ with_updates l.fn.state (take l.update-index l.updates)
