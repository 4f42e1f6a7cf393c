-- What is there so far, and what is left, is the whole.
use Rattle.std.proofs.Common.{◌≡◌, ◌++◌, drop}
use Rattle.std.specs.List.{flat_map}
use Rattle.job.specs.Identity.{table_bytes, tables_bytes}
use Rattle.job.proofs.hashing.push_input_tables_bytes.Given as goal

abbrev pub invariant-loop-table : goal.invariant-loop-table
invariant-loop-table l =
    l.bytes.items ++ flat_map table_bytes (drop l.table-index l.tables) ≡ l.fn.bytes.items ++ tables_bytes l.tables
