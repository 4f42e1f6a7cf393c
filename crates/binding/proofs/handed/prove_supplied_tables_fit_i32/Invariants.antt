use Rattle.std.proofs.Common.{All, take}
use Rattle.binding.specs.Binding.{IsSmallTable}
use Rattle.binding.proofs.handed.prove_supplied_tables_fit_i32.Given as goal

abbrev pub invariant-loop-table : goal.invariant-loop-table
invariant-loop-table l = All IsSmallTable (take l.table-index l.tables)
