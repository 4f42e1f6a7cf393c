use Rattle.job.proofs.Solving.{ranked_is, one_solution, value_solves}
use Rattle.job.proofs.laws.stage_equations_have_one_solution.Goals as goal

pub returns-clause-solves : goal.returns-clause-solves
returns-clause-solves c = λ job is. value_solves job (ranked_is job is)

pub returns-clause-only : goal.returns-clause-only
returns-clause-only c = λ job env g r c is solves there. one_solution job is env solves g r c there
