use Rattle.std.proofs.Common.{rules, ◌≡◌, ◌∙◌, ap, sym, take}
use Rattle.std.proofs.lemmas.List.{take_more}
use Rattle.node_state.specs.States.{State}
use Rattle.live_nodes.specs.Books.{updates_of}
use Rattle.live_nodes.specs.Updates.{with_updates}
use Rattle.live_nodes.proofs.HistoryLaws.{state_of_more}
use Rattle.live_nodes.proofs.book.build_node_book_state_from_events.Goals as goal

pub loop-event-preserved : goal.loop-event-preserved
loop-event-preserved g c =
    let es = c.args.events.now in
    let i = c.loop-event.event-index in
    let e = c.event-item.result in
    let added : c.apply_updates_to_node_book_state.new.state ≡ with_updates c.loop-event.state (updates_of e) = search rules in
    rw (take_more es i e c.loop-event-test.true, sym c.event-item.is)
    (added ∙ ap (λ (s : State). with_updates s (updates_of e)) c.loop-event.invariant ∙ sym (state_of_more (take i es) e))
