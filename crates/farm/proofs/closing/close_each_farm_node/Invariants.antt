use Rattle.std.proofs.Common.{◌≡◌, ◌*◌, ◌++◌, All, drop, length}
use Rattle.std.specs.Vec.Iter.{into_iter_items, into_iter_len}
use Rattle.farm.specs.NodeEnds.{HaveClosed}
use Rattle.farm.specs.Reports.{IsSoundEnd}
use Rattle.farm.proofs.closing.close_each_farm_node.Given as goal

abbrev pub invariant-loop-node : goal.invariant-loop-node
invariant-loop-node g l =
    (All (IsSoundEnd g.C.NamedCatalog.catalog) l.closed.items × (length l.closed.items ≡ length l.yielded))
    × (into_iter_items l.rest ≡ drop (2 * length l.yielded) l.fn.ends.items)
    × (into_iter_len l.rest ≡ length (into_iter_items l.rest))
    × HaveClosed l.closed.items l.fn.ends.items
    × (l.yielded ++ into_iter_items l.node-iterator ≡ l.fn.nodes.items)
