-- What the hasher holds, and what is left, is the message with all entries.
use Rattle.std.proofs.Common.{ℕ, List, ◌≡◌, ◌++◌, drop}
use Rattle.std.specs.List.{flat_map}
use Rattle.job.specs.Identity.{entry_bytes}
use Rattle.job.proofs.hashing.hash_input_table_entries.Given as goal

abbrev pub invariant-loop-entry : goal.invariant-loop-entry
invariant-loop-entry g l =
    (m : List ℕ) → g.D.Digest.holds l.fn.hasher m
    → (held : List ℕ) × g.D.Digest.holds l.hasher held
    × (held ++ flat_map entry_bytes (drop l.entry-index l.entries) ≡ m ++ flat_map entry_bytes l.entries)
