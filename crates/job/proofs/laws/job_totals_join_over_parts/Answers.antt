use Rattle.job.proofs.Joining.{total_of-append}
use Rattle.job.proofs.laws.job_totals_join_over_parts.Goals as goal

pub returns : goal.returns
returns c = total_of-append
