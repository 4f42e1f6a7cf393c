use Rattle.std.proofs.Common.{List, Err, refl, ap, ◌∙◌}
use Rattle.std.proofs.lemmas.Result.{err_from_is_err_and}
use Rattle.pipe_tree.specs.Tree.{branch, branches}
use Rattle.pipe_tree.specs.declared.tree.Case.{Case}
use Rattle.pipe_checks.specs.Uses.{branch_places, branches_places}
use Rattle.pipe_checks.proofs.Judging.{turn_holds, turn_fails}
use Rattle.pipe_checks.proofs.uses.check_cases.Goals as goal

pub returns-in_err-check_case : goal.returns-in_err-check_case
returns-in_err-check_case c =
    let told = err_from_is_err_and c.from_residual.result c.from_residual.ensures.1 in
    turn_fails c.args.names.now c.args.locals.now (λ (x : Case). branch_places (branch x))
    (λ (xs : List Case). branches_places (branches xs)) (λ x xs. refl) c.args.cases.now c.loop-case.case-index _ c.loop-case-test.true
    c.case-item.is _ _ _ c.check_case.ensures c.in_err-check_case.was c.loop-case.invariant (told.1 ∙ ap Err told.2)

pub loop-case-preserved : goal.loop-case-preserved
loop-case-preserved c =
    turn_holds c.args.names.now c.args.locals.now (λ (x : Case). branch_places (branch x))
    (λ (xs : List Case). branches_places (branches xs)) (λ x xs. refl) c.args.cases.now c.loop-case.case-index _ c.loop-case-test.true
    c.case-item.is _ c.check_case.ensures c.in_ok-check_case.was c.loop-case.invariant
