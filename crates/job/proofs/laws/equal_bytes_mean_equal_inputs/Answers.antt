use Rattle.job.proofs.InputLaws.{equal_bytes_mean_equal_inputs}
use Rattle.job.proofs.laws.equal_bytes_mean_equal_inputs.Goals as goal

pub returns : goal.returns
returns c = equal_bytes_mean_equal_inputs
