use Rattle.std.proofs.Common.{◌≡◌, ◌++◌, take}
use Rattle.std.specs.List.{flat_map}
use Rattle.pipe_print.specs.Canonical.{next_term_tokens}
use Rattle.pipe_print.proofs.printer.TokenPrinter.print_affine_sum.Given as goal

abbrev pub invariant-loop-term : goal.invariant-loop-term
invariant-loop-term l = l.self ≡ l.initial.self ++ flat_map next_term_tokens (take l.term-index l.others)
