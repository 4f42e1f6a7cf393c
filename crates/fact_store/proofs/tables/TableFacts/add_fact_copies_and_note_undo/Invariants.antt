use Rattle.std.proofs.Common.{◌≡◌, ◌≤◌, length, take}
use Rattle.fact_store.specs.Facts.{join, lacked}
use Rattle.fact_store.specs.inside.SortedLists.{set_of}
use Rattle.fact_store.specs.inside.Tables.{set_in, undone}
use Rattle.fact_store.proofs.tables.TableFacts.add_fact_copies_and_note_undo.Given as goal

abbrev pub invariant-loop-fact : goal.invariant-loop-fact
invariant-loop-fact l = record {
  added : set_in l.self.tables.entries ≡ join (set_in l.fn.self.tables.entries) (set_of (take l.fact-index l.facts));
  few : l.new ≤ l.fact-index;
  counted : l.new ≡ length (lacked (set_in l.fn.self.tables.entries) (set_in l.self.tables.entries));
  undo : undone l.undo.items l.self.tables.entries ≡ undone l.fn.undo.items l.fn.self.tables.entries;
}
