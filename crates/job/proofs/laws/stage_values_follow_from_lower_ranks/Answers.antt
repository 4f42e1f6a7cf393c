use Rattle.job.proofs.Unrolling.{reads_fall, value-unroll, value_within-value}
use Rattle.job.proofs.laws.stage_values_follow_from_lower_ranks.Goals as goal

pub returns-clause-falls : goal.returns-clause-falls
returns-clause-falls c = λ stages g s ranked is. reads_fall stages ranked g s is

pub returns-clause-unrolls : goal.returns-clause-unrolls
returns-clause-unrolls c = value-unroll

pub returns-clause-enough : goal.returns-clause-enough
returns-clause-enough c = value_within-value
