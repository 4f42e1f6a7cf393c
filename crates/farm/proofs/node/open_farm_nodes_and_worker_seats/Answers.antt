use Rattle.std.proofs.Common.{◌≡◌, arith}
use Rattle.crossbeam_queue.specs.Passes.{ruled_capacity}
use Rattle.farm.proofs.Members.{so_many_more}
use Rattle.farm.proofs.node.open_farm_nodes_and_worker_seats.Goals as goal

pub loop-preserved : goal.loop-preserved
loop-preserved g c =
    let inv = c.loop.invariant in
    let opened = c.in_ok-node.ensures in
    let more = so_many_more (λ node. ruled_capacity node.post.queue ≡ c.args.setup.now.capacity) c.loop.nodes.items _ _ c.in_ok-node.node
    c.loop.counter inv.1 inv.0 c.in_ok-reserve.ensures.items c.push_reserved.ensures.items opened.capacity in
    (more.1, more.0, omega (arith, opened.count, inv.2), opened.fresh inv.3)
