use Rattle.std.proofs.Common.{◌≡◌, ◌++◌, drop}
use Rattle.pipe_tree.specs.Tree.{branches}
use Rattle.pipe_checks.specs.Accesses.{branch_accesses}
use Rattle.pipe_checks.proofs.graph.push_accesses_of_all_cases.Given as goal

abbrev pub invariant-loop-case : goal.invariant-loop-case
invariant-loop-case l =
    l.found.items ++ branch_accesses l.stages (branches (drop l.case-index l.cases))
    ≡ l.initial.found.items ++ branch_accesses l.stages (branches l.cases)
