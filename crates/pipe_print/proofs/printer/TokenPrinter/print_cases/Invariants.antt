use Rattle.std.proofs.Common.{◌≡◌, ◌++◌, take}
use Rattle.std.specs.List.{flat_map}
use Rattle.pipe_tree.specs.Tree.{branches}
use Rattle.pipe_print.specs.Canonical.{case_tokens}
use Rattle.pipe_print.proofs.printer.TokenPrinter.print_cases.Given as goal

abbrev pub invariant-loop-case : goal.invariant-loop-case
invariant-loop-case l = l.self ≡ l.initial.self ++ flat_map case_tokens (branches (take l.case-index l.cases))
