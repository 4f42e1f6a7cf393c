use Rattle.job.proofs.Example.{blur_is}
use Rattle.job.proofs.worked.worked_job_blurs_the_middle.Goals as goal

pub returns-clause-is_job : goal.returns-clause-is_job
returns-clause-is_job c = blur_is
