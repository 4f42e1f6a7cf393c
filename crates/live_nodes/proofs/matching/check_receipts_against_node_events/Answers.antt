use Rattle.std.proofs.Common.{rules, ◌≡◌, suc, ◌+◌, length, take, drop, sym, subst, inl, inr}
use Rattle.std.proofs.lemmas.List.{take_all}
use Rattle.live_nodes.specs.inside.Marks.{AreSeen}
use Rattle.live_nodes.proofs.SeenReceipts.{cut_lists, first_missing, one_list_more, receipts_in, seen_list, seen_none, unfit_list, written}
use Rattle.live_nodes.proofs.matching.check_receipts_against_node_events.Goals as goal

pub loop-list-init : goal.loop-list-init
loop-list-init g c = seen_none c.args.history.now _ (search rules) (search rules)

pub loop-list-preserved : goal.loop-list-preserved
loop-list-preserved g c =
    let T = g.row.T.Denot in
    let h = c.args.history.now in
    let lists = c.args.lists.now in
    let i = c.loop-list.list-index in
    let seen = c.loop-list.seen in
    let new = c.check_and_mark_node_events_of_receipts.new.seen in
    let old_len : length seen.items ≡ seen.len = search rules in
    let new_len : length new ≡ seen.len = search rules in
    let before = receipts_in T (take i lists) in
    seen_list h before (receipts_in T (take (i + 1) lists)) c.as_slice.result.now _ new _
    (one_list_more T lists i c.list-item.result c.loop-list-test.true c.list-item.is) c.as_slice.ensures.value
    (written seen.len new seen.items new_len old_len)
    (c.in_default.ensures.seen before (subst (AreSeen h before) (sym c.as_mut_slice.ensures.value) c.loop-list.invariant))

pub returns-in-Err-clause-fault : goal.returns-in-Err-clause-fault
returns-in-Err-clause-fault g c =
    let T = g.row.T.Denot in
    let h = c.args.history.now in
    let lists = c.args.lists.now in
    let i = c.loop-list.list-index in
    let before = receipts_in T (take i lists) in
    let later = receipts_in T (drop (suc i) lists) in
    inl (
    unfit_list h before later (receipts_in T lists) c.as_slice.result.now _ c.in-Err.number
    (cut_lists T lists i c.list-item.result c.loop-list-test.true c.list-item.is) c.as_slice.ensures.value
    (c.in-Err.ensures.unfit before later (subst (AreSeen h before) (sym c.as_mut_slice.ensures.value) c.loop-list.invariant))
    )

pub returns-in-Some-clause-fault : goal.returns-in-Some-clause-fault
returns-in-Some-clause-fault g c =
    let T = g.row.T.Denot in
    let h = c.args.history.now in
    let lists = c.args.lists.now in
    let whole : take c.loop-list.list-index lists ≡ lists = take_all _ lists c.loop-list-test.false in
    let are = subst (λ ls. AreSeen h (receipts_in T ls) c.loop-list.seen.items) whole c.loop-list.invariant in
    let same = c.as_slice-2.ensures.value in
    inr (
    first_missing h (receipts_in T lists) c.as_slice-2.result.now (subst (AreSeen h (receipts_in T lists)) (sym same) are) c.in-Some.number
    c.in-Some.ensures.within c.in-Some.ensures.unseen c.in-Some.ensures.first
    )
