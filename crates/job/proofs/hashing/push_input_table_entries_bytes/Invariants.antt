-- What is there so far, and what is left, is the whole.
use Rattle.std.proofs.Common.{◌≡◌, ◌++◌, drop}
use Rattle.std.specs.List.{flat_map}
use Rattle.job.specs.Identity.{entry_bytes}
use Rattle.job.proofs.hashing.push_input_table_entries_bytes.Given as goal

abbrev pub invariant-loop-entry : goal.invariant-loop-entry
invariant-loop-entry l =
    l.bytes.items ++ flat_map entry_bytes (drop l.entry-index l.entries) ≡ l.fn.bytes.items ++ flat_map entry_bytes l.entries
