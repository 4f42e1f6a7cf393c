use Rattle.binding.proofs.BoundProgramsAreJobs.{one_job, bound_job_is}
use Rattle.binding.proofs.laws.programs_bind_to_well_formed_jobs.Goals as goal

pub returns-clause-one : goal.returns-clause-one
returns-clause-one c = one_job

pub returns-clause-job : goal.returns-clause-job
returns-clause-job c = bound_job_is
