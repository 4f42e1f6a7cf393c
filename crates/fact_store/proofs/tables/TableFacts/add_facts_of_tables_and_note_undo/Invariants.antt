use Rattle.std.proofs.Common.{◌≡◌, length}
use Rattle.fact_store.specs.Facts.{join, lacked, IsSubset}
use Rattle.fact_store.specs.inside.SortedLists.{set_of}
use Rattle.fact_store.specs.inside.Tables.{all_facts, set_in, undone}
use Rattle.fact_store.proofs.tables.TableFacts.add_facts_of_tables_and_note_undo.Given as goal

-- what there was and what the tables have is held, or in the tables that are left
abbrev pub invariant-loop-table : goal.invariant-loop-table
invariant-loop-table l = record {
  added : join (set_in l.self.tables.entries) (set_of (all_facts l.table-iterator))
      ≡ join (set_in l.fn.self.tables.entries) (set_of (all_facts l.tables.entries));
  grown : IsSubset (set_in l.fn.self.tables.entries) (set_in l.self.tables.entries);
  undo : undone l.undo.items l.self.tables.entries ≡ undone l.fn.undo.items l.fn.self.tables.entries;
  counted : l.new ≡ length (lacked (set_in l.fn.self.tables.entries) (set_in l.self.tables.entries));
}
