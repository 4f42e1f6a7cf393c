use Rattle.fact_audit.proofs.Judging.{one_true}
use Rattle.fact_audit.proofs.laws.keys_have_one_true_fact.Goals as goal

pub returns : goal.returns
returns c = one_true
