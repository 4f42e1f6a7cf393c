use Rattle.job.proofs.TotalsFit.{totals_over_fit, job_totals_fit_in_64_bits}
use Rattle.job.proofs.laws.job_totals_fit_in_64_bits.Goals as goal

pub returns-clause-whole : goal.returns-clause-whole
returns-clause-whole c = λ job g is. job_totals_fit_in_64_bits job is g

pub returns-clause-part : goal.returns-clause-part
returns-clause-part c = λ job g s area is. totals_over_fit job is g s area
