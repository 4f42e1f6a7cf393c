use Rattle.std.proofs.Common.{◌≡◌, ◌++◌, drop}
use Rattle.pipe_tree.specs.Tree.{declarations}
use Rattle.pipe_checks.specs.Names.{names_from}
use Rattle.pipe_checks.proofs.symbol.symbols_declared_by_items.Given as goal

abbrev pub invariant-loop-number : goal.invariant-loop-number
invariant-loop-number l = l.names.items ++ names_from l.number (declarations (drop l.number l.items)) ≡ names_from 0 (declarations l.items)
