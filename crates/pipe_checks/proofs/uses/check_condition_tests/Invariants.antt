use Rattle.std.proofs.Common.{◌≡◌, drop}
use Rattle.pipe_checks.specs.Uses.{tests_places}
use Rattle.pipe_checks.specs.inside.Judging.{judged}
use Rattle.pipe_checks.proofs.uses.check_condition_tests.Given as goal

abbrev pub invariant-loop-test : goal.invariant-loop-test
invariant-loop-test l = judged l.names l.locals (tests_places (drop l.test-index l.tests)) ≡ judged l.names l.locals (tests_places l.tests)
