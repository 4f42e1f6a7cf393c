use Rattle.fact_audit.proofs.Judging.{true_fits}
use Rattle.fact_audit.proofs.laws.true_facts_fit_their_tiles.Goals as goal

pub returns : goal.returns
returns c = true_fits
