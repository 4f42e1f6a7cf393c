use Rattle.std.proofs.Common.{◌≡◌, ◌/◌, ◌++◌, [], All, Some, length, map, slice_get}
use Rattle.std.specs.Vec.Iter.{into_iter_items}
use Rattle.crossbeam_queue.specs.Passes.{view}
use Rattle.farm.specs.Members.{EachAt}
use Rattle.farm.specs.NodeEnds.{AreNewEnds}
use Rattle.posts.specs.Parcels.{moves}
use Rattle.farm.proofs.farm.make_farm_workers.Given as goal

abbrev pub invariant-loop-end : goal.invariant-loop-end
invariant-loop-end g l =
    (l.number ≡ length l.workers.items) × (length l.workers.items ≡ length l.yielded) × AreNewEnds (into_iter_items l.end-iterator)
    × (l.yielded ++ into_iter_items l.end-iterator ≡ l.fn.seats.items)
    × EachAt (λ number worker.
    (worker.number ≡ number) × (worker.home ≡ number / 2) × (worker.setup ≡ l.fn.setup) × (worker.work.now ≡ l.fn.shared.work)
    × (slice_get (map (λ node. node.live) l.fn.shared.nodes.items) worker.home ≡ Some worker.hand.node.now)
    × (worker.hand.end.receipts.items ≡ []) × All (λ port. view port.pass.seat ≡ moves [] []) worker.ports.items
    × (map (λ port. port.post.now) worker.ports.items ≡ map (λ node. node.post) l.fn.shared.nodes.items)) l.workers.items
