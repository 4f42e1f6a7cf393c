use Rattle.std.proofs.Common.{rules, ◌≡◌, ◌∙◌, ap, sym, take}
use Rattle.std.proofs.lemmas.List.{take_more}
use Rattle.node_state.specs.States.{State}
use Rattle.live_nodes.specs.Updates.{with_update}
use Rattle.live_nodes.proofs.UpdateLaws.{with_updates-push}
use Rattle.live_nodes.proofs.book.apply_updates_to_node_book_state.Goals as goal

pub loop-update-preserved : goal.loop-update-preserved
loop-update-preserved g c =
    let us = c.args.updates.now in
    let i = c.loop-update.update-index in
    let u = c.update-item.result in
    let added : c.apply_update_to_node_book_state.new.state ≡ with_update c.loop-update.state u = search rules in
    rw (take_more us i u c.loop-update-test.true, sym c.update-item.is)
    (added ∙ (ap (λ (s : State). with_update s u) c.loop-update.invariant ∙ sym (with_updates-push c.args.state.now (take i us) u)))
