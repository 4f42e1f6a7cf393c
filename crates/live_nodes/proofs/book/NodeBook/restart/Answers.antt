use Rattle.std.proofs.Common.{rules, arith, ◌≡◌, ◌++◌, [], ◌∷◌, length, length-append}
use Rattle.live_nodes.specs.declared.event.Event.TheVariants.{Restarted}
use Rattle.live_nodes.proofs.HistoryLaws.{book_restarted}
use Rattle.live_nodes.proofs.book.NodeBook.restart.Goals as goal

pub invariant_of-self-2 : goal.invariant_of-self-2
invariant_of-self-2 g c =
    let s = c.self.inside in
    let es = s.history.items in
    let copied : c.in_ok-held.held ≡ s.kept = search rules in
    let pushed : c.push_reserved.new.self.items ≡ es ++ Restarted ∷ [] = search rules in
    let count : c.len-number.result ≡ length es = search rules in
    rw (pushed, copied) (book_restarted g.C.NamedCatalog.catalog _ _ _ _ _ c.self.invariant (omega (arith, count, length-append es (Restarted ∷ []))))
