use Rattle.std.proofs.Common.{List, Option, ◌≡◌, ◌⊎◌, ◌++◌, map, length, sym, subst}
use Rattle.std.specs.Option.{option_map}
use Rattle.std.proofs.lemmas.Result.{err_from_is_err_and}
use Rattle.pipe_tree.specs.declared.tree.Case.{Case}
use Rattle.pipe_tree.specs.declared.tree.Expr.{Expr}
use Rattle.pipe_tree.specs.Tree.{view, branches, cases_of}
use Rattle.pipe_bounds.specs.declared.fault.BoundFault.TheVariants.{Memory}
use Rattle.pipe_checks.specs.Accesses.{accesses_of}
use Rattle.pipe_bounds.specs.InBounds.{IsFirstCase, branch_case, whole_case, otherwise_cases}
use Rattle.pipe_bounds.specs.inside.Taken.{AreSoundCases, AnswersCases}
use Rattle.pipe_bounds.proofs.Firsts.{cases_end, cases_more, front_fault, over_whole}
use Rattle.domains.proofs.Places.{slice_get-end}
use Rattle.pipe_bounds.specs.StageBounds.{AreBoxes, domains_in}
use Rattle.pipe_bounds.proofs.reader.BoundsChecker.check_func_reads.Goals as goal

pub check_cases_reads-requires-clause-boxes : goal.check_cases_reads-requires-clause-boxes
check_cases_reads-requires-clause-boxes c =
    let self = c.args.self.now in
    subst (λ (cs : List Case). AreBoxes self.params.now c.args.func.now.row.name self.domain.now (branches cs) self.boxes.now)
    (sym c.case_list-cases.ensures) c.requires.boxes

pub returns-in_err-check_cases_reads : goal.returns-in_err-check_cases_reads
returns-in_err-check_cases_reads c =
    let self = c.args.self.now in
    let func = c.args.func.now in
    let case = branch_case self.stages.now func.row.name in
    let f = c.in_err-check_cases_reads.field-0.0 in
    let fault =
    subst (λ (cs : List Case). (f ≡ Memory)
    ⊎ IsFirstCase self.params.now (domains_in self.found.now) self.domain.now (map case (branches cs)) self.stage f)
    c.case_list-cases.ensures c.in_err-check_cases_reads.ensures in
    let p = err_from_is_err_and c.from_residual.result c.from_residual.ensures.1 in
    rw (p.1, p.2) (front_fault self.params.now (domains_in self.found.now) self.domain.now (map case (branches (cases_of func.cases)))
    (otherwise_cases self.stages.now func.row.name (option_map view func.otherwise)) self.stage f fault)

pub check_expr_reads-requires-clause-sound : goal.check_expr_reads-requires-clause-sound
check_expr_reads-requires-clause-sound c =
    let self = c.args.self.now in
    let func = c.args.func.now in
    let row = func.row.name in
    let xs = map (branch_case self.stages.now row) (branches (cases_of func.cases)) in
    let y = whole_case row (accesses_of self.stages.now (view c.in-Some.value)) in
    let sound =
    subst (λ (o : Option Expr). AreSoundCases (length self.found.now) (xs ++ otherwise_cases self.stages.now row (option_map view o)))
    c.in-Some.is c.requires.sound in
    sound (length xs) y (slice_get-end xs y)

pub returns-in-Some : goal.returns-in-Some
returns-in-Some c =
    let self = c.args.self.now in
    let func = c.args.func.now in
    let row = func.row.name in
    let case = branch_case self.stages.now row in
    let cs = c.case_list-cases.result.now in
    let accesses = accesses_of self.stages.now (view c.in-Some.value) in
    let last =
    over_whole self.params.now (domains_in self.found.now) self.domain.now row accesses self.stage (length cs) c.check_expr_reads.result
    c.check_expr_reads.ensures in
    let whole =
    cases_more self.params.now (domains_in self.found.now) self.domain.now (map case (branches cs)) (whole_case row accesses) self.stage
    (length cs) c.check_expr_reads.result (sym (cases_end self.stages.now row cs)) c.in_ok-check_cases_reads.ensures last in
    let some =
    subst (λ (o : Option Expr). AnswersCases self.params.now (domains_in self.found.now) self.domain.now
    (map case (branches cs) ++ otherwise_cases self.stages.now row (option_map view o)) self.stage c.check_expr_reads.result) (sym c.in-Some.is)
    whole in
    subst (λ (ds : List Case). AnswersCases self.params.now (domains_in self.found.now) self.domain.now
    (map case (branches ds) ++ otherwise_cases self.stages.now row (option_map view func.otherwise)) self.stage c.check_expr_reads.result)
    c.case_list-cases.ensures some
