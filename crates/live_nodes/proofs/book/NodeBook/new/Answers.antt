use Rattle.std.proofs.Common.{refl, subst}
use Rattle.catalog.specs.Entries.{IsCatalog}
use Rattle.live_nodes.proofs.HistoryLaws.{book_new}
use Rattle.live_nodes.proofs.book.NodeBook.new.Goals as goal

pub invariant_of-result : goal.invariant_of-result
invariant_of-result g c =
    book_new g.C.NamedCatalog.catalog _ _ _ _ (subst IsCatalog c.requires c.job.ensures.catalog) c.new.ensures c.new-2.ensures refl
    c.new-3.ensures.items
