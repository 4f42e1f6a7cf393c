use Rattle.std.proofs.Common.{◌≡◌, ◌++◌, ◌∷◌, [], take}
use Rattle.pipe_print.specs.Canonical.{each_behind}
use Rattle.pipe_print.proofs.printer.TokenPrinter.print_separated_entries.Given as goal

abbrev pub invariant-loop-entry : goal.invariant-loop-entry
invariant-loop-entry g l = l.self ≡ l.initial.self ++ each_behind (l.separator ∷ []) g.T.ListEntry.tokens (take l.entry-index l.others)
