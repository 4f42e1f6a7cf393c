use Rattle.std.proofs.Common.{subst}
use Rattle.catalog.specs.Entries.{AreJobs}
use Rattle.catalog.proofs.Standing.{all_jobs}
use Rattle.catalog.proofs.catalog.Catalog.job.Goals as goal

pub returns-clause-jobs : goal.returns-clause-jobs
returns-clause-jobs c = subst AreJobs c.jobs.ensures.jobs (all_jobs c.jobs.result.now)
