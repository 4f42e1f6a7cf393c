-- The value, computed.
use Rattle.std.proofs.Common.{refl}
use Rattle.std.specs.Int.{int_wrap}
use Rattle.job.proofs.worked.worked_formulas_match_hand_results.Goals as goal

pub returns-clause-doubles : goal.returns-clause-doubles
unfolding int_wrap
returns-clause-doubles c = λ env r c. refl
