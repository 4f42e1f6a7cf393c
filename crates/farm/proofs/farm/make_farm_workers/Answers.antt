use Rattle.std.proofs.Common.{◌≡◌, ◌<◌, ◌/◌, ◌∙◌, ◌∷◌, ◌++◌, [], append_assoc, arith, rules, refl, ap, length, length-append, map, subst}
use Rattle.std.proofs.lemmas.List.Elements.{All-head, All-tail}
use Rattle.std.specs.Vec.Iter.{into_iter_items}
use Rattle.farm.proofs.Members.{each_more, lengths_more, made_at}
use Rattle.farm.specs.NodeEnds.{AreNewEnds, IsNewEnd}
use Rattle.farm.proofs.farm.make_farm_workers.Goals as goal

pub loop-end-preserved : goal.loop-end-preserved
loop-end-preserved g c =
    let inv = c.loop-end.invariant in
    let before = c.loop-end.yielded in
    let rest = into_iter_items c.next.new.self in
    let nodes = c.args.shared.now.nodes.items in
    let new : AreNewEnds (c.in-Some.end ∷ rest) = subst AreNewEnds c.in-Some.ensures.steps.0 inv.2 in
    let all : before ++ c.in-Some.end ∷ rest ≡ c.args.seats.items = rw (← c.in-Some.ensures.steps.0) inv.3 in
    let below : c.loop-end.number / 2 < length nodes =
    omega (arith, inv.0, inv.1, ap length all, length-append before (c.in-Some.end ∷ rest), c.requires.seats, c.requires.nodes) in
    let at = c.from.ensures in
    let ports = c.in_ok-open_ports_to_farm_node_mailboxes.ensures in (
      search rules,
      lengths_more _ _ _ before _ c.in-Some.end c.in_ok-reserve.ensures.items c.push_reserved.ensures.items inv.1,
      All-tail IsNewEnd c.in-Some.end rest new,
      append_assoc before (c.in-Some.end ∷ []) rest ∙ all,
      each_more _ c.loop-end.workers.items _ _ _ c.in_ok-reserve.ensures.items c.push_reserved.ensures.items inv.4 (
        inv.0,
        ap (λ k. k / 2) inv.0,
        refl,
        refl,
        made_at (λ node. node.live) nodes c.from.result (c.loop-end.number / 2) c.index.result.now at (omega (arith, at, below)) c.index.ensures,
        All-head IsNewEnd c.in-Some.end rest new,
        ports.fresh,
        ports.posts ∙ ap (map (λ node. node.post)) c.deref.ensures.value,
      ),
    )
