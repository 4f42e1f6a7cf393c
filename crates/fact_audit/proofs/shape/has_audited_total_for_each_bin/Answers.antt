use Rattle.fact_audit.proofs.OneTile.{never}
use Rattle.fact_audit.proofs.shape.has_audited_total_for_each_bin.Goals as goal

pub returns-in-None : goal.returns-in-None
returns-in-None c = never (λ p. c.in-None.ensures.none p.ends p.has)
