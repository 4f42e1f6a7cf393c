use Rattle.std.proofs.Common.{rules, ◌≡◌, ◌++◌, [], ◌∷◌}
use Rattle.node_state.specs.States.{join}
use Rattle.live_nodes.specs.Updates.{state_of}
use Rattle.live_nodes.specs.declared.event.Event.TheVariants.{Took}
use Rattle.live_nodes.proofs.HistoryLaws.{book_took}
use Rattle.live_nodes.proofs.book.NodeBook.take_copies_of_updates.Goals as goal

pub invariant_of-self-2 : goal.invariant_of-self-2
invariant_of-self-2 g c =
    let s = c.self.inside in
    let joined : c.merge.new.self ≡ join s.held (state_of c.args.updates.now) = search rules in
    let pushed : c.push_reserved.new.self.items ≡ s.history.items ++ Took c.args.updates.now ∷ [] = search rules in
    rw (pushed, joined) (book_took g.C.NamedCatalog.catalog _ _ _ _ c.args.updates.now c.self.invariant c.requires)
