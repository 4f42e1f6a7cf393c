use Rattle.std.proofs.Common.{rules, arith, ◌≡◌, ◌++◌, [], ◌∷◌, drop, length, length-append}
use Rattle.node_state.specs.States.{join}
use Rattle.live_nodes.specs.Books.{updates_in}
use Rattle.live_nodes.specs.Updates.{state_of}
use Rattle.live_nodes.specs.declared.event.Event.TheVariants.{Kept}
use Rattle.live_nodes.proofs.HistoryLaws.{book_kept}
use Rattle.live_nodes.proofs.book.NodeBook.keep.Goals as goal

pub invariant_of-self-2 : goal.invariant_of-self-2
invariant_of-self-2 g c =
    let s = c.self.inside in
    let es = s.history.items in
    let taken : c.in_ok-taken.taken ≡ state_of (updates_in (drop s.since es)) = search rules in
    let merged : c.merge.new.self ≡ join s.kept c.in_ok-taken.taken = search rules in
    let pushed : c.push_reserved.new.self.items ≡ es ++ Kept ∷ [] = search rules in
    let count : c.len-number.result ≡ length es = search rules in
    rw (pushed, merged) (book_kept g.C.NamedCatalog.catalog _ _ _ _ _ _ c.self.invariant taken (omega (arith, count, length-append es (Kept ∷ []))))
