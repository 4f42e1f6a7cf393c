use Rattle.binding.proofs.JobsKeepLimits.{small_job}
use Rattle.binding.proofs.laws.bind_keeps_text_limits.Goals as goal

pub returns : goal.returns
returns c = small_job
