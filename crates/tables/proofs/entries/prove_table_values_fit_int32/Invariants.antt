use Rattle.std.proofs.Common.{FitsSigned, take}
use Rattle.std.specs.Int.{w32}
use Rattle.std.specs.List.{All}
use Rattle.tables.proofs.entries.prove_table_values_fit_int32.Given as goal

abbrev pub invariant-loop-number : goal.invariant-loop-number
invariant-loop-number l = All (FitsSigned w32) (take l.number-index l.numbers)
