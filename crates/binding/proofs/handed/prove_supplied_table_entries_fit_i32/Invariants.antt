use Rattle.std.proofs.Common.{FitsSigned, take}
use Rattle.std.specs.Int.{w32}
use Rattle.std.specs.List.{All}
use Rattle.binding.proofs.handed.prove_supplied_table_entries_fit_i32.Given as goal

abbrev pub invariant-loop-entry : goal.invariant-loop-entry
invariant-loop-entry l = All (FitsSigned w32) (take l.entry-index l.entries)
