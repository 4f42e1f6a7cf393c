use Rattle.job.proofs.Solving.{value_fits}
use Rattle.job.proofs.laws.stage_values_fit_in_32_bits.Goals as goal

pub returns : goal.returns
returns c = λ job g r c is there. value_fits job is g r c there
