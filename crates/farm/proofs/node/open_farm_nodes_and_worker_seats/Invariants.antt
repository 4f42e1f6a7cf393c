use Rattle.std.proofs.Common.{◌≡◌, ◌*◌, All, length}
use Rattle.crossbeam_queue.specs.Passes.{ruled_capacity}
use Rattle.farm.specs.NodeEnds.{AreNewEnds}
use Rattle.farm.proofs.node.open_farm_nodes_and_worker_seats.Given as goal

abbrev pub invariant-loop : goal.invariant-loop
invariant-loop g l =
    (length l.nodes.items ≡ l.counter) × All (λ node. ruled_capacity node.post.queue ≡ l.fn.setup.capacity) l.nodes.items
    × (length l.ends.items ≡ 2 * l.counter) × AreNewEnds l.ends.items
