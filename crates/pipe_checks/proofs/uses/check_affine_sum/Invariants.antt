use Rattle.std.proofs.Common.{◌≡◌, drop}
use Rattle.pipe_checks.specs.Uses.{affine_places}
use Rattle.pipe_checks.specs.inside.Judging.{judged}
use Rattle.pipe_checks.proofs.uses.check_affine_sum.Given as goal

abbrev pub invariant-loop-term : goal.invariant-loop-term
invariant-loop-term l =
    judged l.names l.locals (affine_places (drop l.term-index l.term-items)) ≡ judged l.names l.locals (affine_places l.term-items)
