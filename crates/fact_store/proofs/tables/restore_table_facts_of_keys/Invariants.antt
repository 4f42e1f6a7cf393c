use Rattle.std.proofs.Common.{◌≡◌, length}
use Rattle.fact_store.specs.inside.Tables.{undone}
use Rattle.fact_store.proofs.tables.restore_table_facts_of_keys.Given as goal

abbrev pub invariant-loop-key : goal.invariant-loop-key
invariant-loop-key l = undone l.rest.items l.tables.entries ≡ undone l.fn.undo.items l.fn.tables.entries

abbrev pub decreases-loop-key : goal.decreases-loop-key
decreases-loop-key l = length l.rest.items
