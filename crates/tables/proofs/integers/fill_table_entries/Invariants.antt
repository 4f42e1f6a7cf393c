use Rattle.tables.proofs.IntegerLaws.{Read}
use Rattle.tables.proofs.integers.fill_table_entries.Given as goal

abbrev pub invariant-loop-k : goal.invariant-loop-k
invariant-loop-k l = Read l.text l.k l.rest l.entries
