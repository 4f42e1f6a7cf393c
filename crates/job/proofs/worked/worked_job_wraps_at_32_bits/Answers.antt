-- The values, computed.
use Rattle.std.proofs.Common.{refl}
use Rattle.std.specs.Int.{int_wrap}
use Rattle.job.proofs.worked.worked_job_wraps_at_32_bits.Goals as goal

pub returns-clause-sum : goal.returns-clause-sum
unfolding int_wrap
returns-clause-sum c = refl

pub returns-clause-absolute : goal.returns-clause-absolute
unfolding int_wrap
returns-clause-absolute c = refl

pub returns-clause-cut : goal.returns-clause-cut
unfolding int_wrap
returns-clause-cut c = refl
