-- The bytes, computed.
use Rattle.std.proofs.Common.{refl}
use Rattle.std.specs.Fmt.{digits}
use Rattle.job.proofs.worked.worked_job_looks_up_entries.Goals as goal

pub returns-clause-hashed : goal.returns-clause-hashed
unfolding digits
returns-clause-hashed c = refl
