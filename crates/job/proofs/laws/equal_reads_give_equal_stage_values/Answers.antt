use Rattle.job.proofs.Agreeing.{formula_value-agrees}
use Rattle.job.proofs.Solving.{body_value-agrees_there}
use Rattle.job.proofs.TotalLaws.{body_totals-agrees}
use Rattle.job.proofs.laws.equal_reads_give_equal_stage_values.Goals as goal

pub returns-clause-formula : goal.returns-clause-formula
returns-clause-formula c = λ e h f r c same. formula_value-agrees e h r c f same

pub returns-clause-stage : goal.returns-clause-stage
returns-clause-stage c = body_value-agrees_there

pub returns-clause-totals : goal.returns-clause-totals
returns-clause-totals c = λ e h area body is same. body_totals-agrees e h area is body same

pub returns-clause-region : goal.returns-clause-region
returns-clause-region c = λ e h region f same r c inside. formula_value-agrees e h r c f (same r c inside)
