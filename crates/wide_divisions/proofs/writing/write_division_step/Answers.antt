use Rattle.std.proofs.Common.{arith, ◌<◌, ◌≡◌, ◌+ℤ◌, pos, subst, sym, ap, ◌∙◌}
use Rattle.domains.specs.Index.{index_at}
use Rattle.job.specs.Values.{formula_value}
use Rattle.row_loops.specs.Rows.{at}
use Rattle.wide_divisions.specs.Reads.{read_formula, IsAdjacentRead}
use Rattle.wide_divisions.specs.declared.reads.DivisionStepRead.{DivisionStepRead}
use Rattle.wide_divisions.specs.DivisionSteps.{read_of_rest, step_result}
use Rattle.wide_divisions.proofs.StepReads.{rest_adjacent, step_reads}
use Rattle.wide_divisions.proofs.StepValues.{step_value}
use Rattle.wide_divisions.proofs.writing.write_division_step.Goals as goal

pub borrow_division_step_read-requires-clause-adjacent : goal.borrow_division_step_read-requires-clause-adjacent
borrow_division_step_read-requires-clause-adjacent g c =
    subst IsAdjacentRead (sym c.find_read_of_division_step_rest-read.ensures) (rest_adjacent c.args.step.now.rest c.requires.right.rest)

pub borrow_division_step_read-requires-clause-reads : goal.borrow_division_step_read-requires-clause-reads
borrow_division_step_read-requires-clause-reads g c = λ k h.
    let points = c.args.points.now in
    let has = g.S.RowSource.has c.args.source.now in
    subst (λ (x : DivisionStepRead). has x.stage (index_at x.row.now points.row) (index_at x.col.now (points.col +ℤ pos k)))
    (sym c.find_read_of_division_step_rest-read.ensures)
    (step_reads has points.row (points.col +ℤ pos k) c.args.step.now (c.requires.reads k h)).0

pub borrow_division_step_read-requires-2-clause-reads : goal.borrow_division_step_read-requires-2-clause-reads
borrow_division_step_read-requires-2-clause-reads g c = λ k h.
    let points = c.args.points.now in
    (step_reads (g.S.RowSource.has c.args.source.now) points.row (points.col +ℤ pos k) c.args.step.now (c.requires.reads k h)).1

pub returns : goal.returns
returns g c = λ t k h.
    let step = c.args.step.now in
    let points = c.args.points.now in
    let env = g.S.RowSource.samples c.args.source.now in
    let lt : k < points.len = omega arith in
    let rest : at c.in-Some.samples.now k ≡ formula_value env (read_formula (read_of_rest step.rest)) points.row (points.col +ℤ pos k) =
    c.in-Some.ensures.1 k lt
    ∙ ap (λ (x : DivisionStepRead). formula_value env (read_formula x) points.row (points.col +ℤ pos k))
    c.find_read_of_division_step_rest-read.ensures in
    let divisor = c.in-Some-borrow_division_step_read.ensures.1 k lt in
    c.write_division_step_results.ensures k h ∙ (λ i. step_result step (rest i) (divisor i))
    ∙ step_value env step points.row (points.col +ℤ pos k)
