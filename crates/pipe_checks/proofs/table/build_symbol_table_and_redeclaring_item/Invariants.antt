use Rattle.std.proofs.Common.{take}
use Rattle.pipe_checks.specs.inside.Tables.{IsTableOf}
use Rattle.pipe_checks.proofs.table.build_symbol_table_and_redeclaring_item.Given as goal

abbrev pub invariant-loop-symbol : goal.invariant-loop-symbol
invariant-loop-symbol l = IsTableOf (take l.symbol-index l.names) (record { table = l.table; again = l.again })
