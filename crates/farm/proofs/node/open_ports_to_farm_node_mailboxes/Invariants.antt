use Rattle.std.proofs.Common.{◌≡◌, [], All, map, take}
use Rattle.crossbeam_queue.specs.Passes.{view}
use Rattle.posts.specs.Parcels.{moves}
use Rattle.farm.proofs.node.open_ports_to_farm_node_mailboxes.Given as goal

abbrev pub invariant-loop-node : goal.invariant-loop-node
invariant-loop-node g l =
    (map (λ port. port.post.now) l.ports.items ≡ map (λ node. node.post) (take l.node-index l.nodes))
    × All (λ port. view port.pass.seat ≡ moves [] []) l.ports.items
