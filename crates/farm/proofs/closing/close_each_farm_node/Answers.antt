use Rattle.std.proofs.Common.{◌≡◌, ◌<◌, ◌∙◌, ◌∷◌, ◌++◌, [], ap, append_assoc, arith, length, length-append, map, take}
use Rattle.std.specs.Vec.Iter.{into_iter_items}
use Rattle.std.proofs.lemmas.Result.{err_from_is_err_and}
use Rattle.farm.specs.NodeEnds.{end_of, ends_of_node}
use Rattle.farm.specs.Reports.{IsSoundEnd}
use Rattle.farm.proofs.Ends.{one_more}
use Rattle.farm.proofs.NodeReceipts.{closed_more, fault_of_node, rest_after_node}
use Rattle.farm.proofs.closing.close_each_farm_node.Goals as goal

pub loop-node-preserved : goal.loop-node-preserved
loop-node-preserved g c =
    let inv = c.loop-node.invariant in
    let all = c.args.ends.items in
    let ns = c.loop-node.yielded in
    let taken = c.in_ok-mine.ensures in
    let mine : c.in_ok-mine.mine.items ≡ ends_of_node all (length ns) =
    taken.taken inv.2 ∙ ap (λ l. map end_of (take 2 l)) inv.1 in (
      one_more (IsSoundEnd g.C.NamedCatalog.catalog) c.loop-node.closed.items _ _ ns _ c.in-Some.node
          inv.0 c.in_ok-reserve.ensures.items c.push_reserved.ensures.items c.in_ok-one.ensures.sound,
      rest_after_node all _ _ ns c.in-Some.node inv.1 (taken.rest inv.2),
      taken.whole inv.2,
      closed_more c.loop-node.closed.items _ _ c.in_ok-one.one all _ (length ns) c.in_ok-reserve.ensures.items c.push_reserved.ensures.items
          inv.0.1 mine c.in_ok-one.ensures.receipts inv.3,
      append_assoc ns (c.in-Some.node ∷ []) _ ∙ rw (← c.in-Some.ensures.steps.0) inv.4,
    )

pub returns-in_err-one-clause-fault : goal.returns-in_err-one-clause-fault
returns-in_err-one-clause-fault g c =
    let inv = c.loop-node.invariant in
    let all = c.args.ends.items in
    let node = length c.loop-node.yielded in
    let there : c.loop-node.yielded ++ c.in-Some.node ∷ into_iter_items c.next.new.self ≡ c.args.nodes.items =
    rw (← c.in-Some.ensures.steps.0) inv.4 in
    let below : node < length c.args.nodes.items =
    omega (arith, ap length there, length-append c.loop-node.yielded (c.in-Some.node ∷ into_iter_items c.next.new.self)) in
    let mine : c.in_ok-mine.mine.items ≡ ends_of_node all node =
    c.in_ok-mine.ensures.taken inv.2 ∙ ap (λ l. map end_of (take 2 l)) inv.1 in
    let told = c.in_err-one.ensures.told in
    let p = err_from_is_err_and c.from_residual-in_err-one.result c.from_residual-in_err-one.ensures.1 in
    rw (p.1, p.2) (fault_of_node (length c.args.nodes.items) node all _ told.0 c.in_err-one.field-0.0 below mine told.1 told.2)
