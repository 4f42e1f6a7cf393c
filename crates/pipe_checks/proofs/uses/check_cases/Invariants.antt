use Rattle.std.proofs.Common.{◌≡◌, drop}
use Rattle.pipe_tree.specs.Tree.{branches}
use Rattle.pipe_checks.specs.Uses.{branches_places}
use Rattle.pipe_checks.specs.inside.Judging.{judged}
use Rattle.pipe_checks.proofs.uses.check_cases.Given as goal

abbrev pub invariant-loop-case : goal.invariant-loop-case
invariant-loop-case l =
    judged l.names l.locals (branches_places (branches (drop l.case-index l.cases)))
    ≡ judged l.names l.locals (branches_places (branches l.cases))
