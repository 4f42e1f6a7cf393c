use Rattle.std.proofs.Common.{Err, refl, ap, ◌∙◌}
use Rattle.std.proofs.lemmas.Result.{err_from_is_err_and}
use Rattle.pipe_checks.specs.Uses.{test_places, tests_places}
use Rattle.pipe_checks.proofs.Judging.{turn_holds, turn_fails}
use Rattle.pipe_checks.proofs.uses.check_condition_tests.Goals as goal

pub returns-in_err-check_condition_test : goal.returns-in_err-check_condition_test
returns-in_err-check_condition_test c =
    let told = err_from_is_err_and c.from_residual.result c.from_residual.ensures.1 in
    turn_fails c.args.names.now c.args.locals.now test_places tests_places (λ t ts. refl) c.args.tests.now c.loop-test.test-index _
    c.loop-test-test.true c.test-item.is _ _ _ c.check_condition_test.ensures c.in_err-check_condition_test.was c.loop-test.invariant
    (told.1 ∙ ap Err told.2)

pub loop-test-preserved : goal.loop-test-preserved
loop-test-preserved c =
    turn_holds c.args.names.now c.args.locals.now test_places tests_places (λ t ts. refl) c.args.tests.now c.loop-test.test-index _
    c.loop-test-test.true c.test-item.is _ c.check_condition_test.ensures c.in_ok-check_condition_test.was c.loop-test.invariant
