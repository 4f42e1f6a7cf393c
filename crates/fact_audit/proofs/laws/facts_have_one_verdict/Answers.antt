use Rattle.fact_audit.proofs.Judging as judging
use Rattle.fact_audit.proofs.laws.facts_have_one_verdict.Goals as goal

pub returns : goal.returns
returns c = judging.one_verdict
