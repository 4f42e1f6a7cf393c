-- What the hasher holds, and what is left, is the message with all tables.
use Rattle.std.proofs.Common.{ℕ, List, ◌≡◌, ◌++◌, drop}
use Rattle.std.specs.List.{flat_map}
use Rattle.job.specs.Identity.{table_bytes}
use Rattle.job.proofs.hashing.hash_input_tables_without_count.Given as goal

abbrev pub invariant-loop-table : goal.invariant-loop-table
invariant-loop-table g l =
    (m : List ℕ) → g.D.Digest.holds l.fn.hasher m
    → (held : List ℕ) × g.D.Digest.holds l.hasher held
    × (held ++ flat_map table_bytes (drop l.table-index l.tables) ≡ m ++ flat_map table_bytes l.tables)
