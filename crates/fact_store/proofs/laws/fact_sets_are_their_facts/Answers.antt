use Rattle.fact_store.proofs.SetLaws.{same_holders, holds-nothing, in_with_fact, with_fact_has, in_join, join_has, facts_rise}
use Rattle.fact_store.proofs.KeyLaws.{in_facts}
use Rattle.fact_store.proofs.laws.fact_sets_are_their_facts.Goals as goal

pub returns-clause-same : goal.returns-clause-same
returns-clause-same c = same_holders

pub returns-clause-nothing : goal.returns-clause-nothing
returns-clause-nothing c = holds-nothing

pub returns-clause-one_more : goal.returns-clause-one_more
returns-clause-one_more c s f g = (in_with_fact s f g, with_fact_has s f g)

pub returns-clause-both : goal.returns-clause-both
returns-clause-both c s t f = (in_join s t f, join_has s t f)

pub returns-clause-rise : goal.returns-clause-rise
returns-clause-rise c = facts_rise

pub returns-clause-listed : goal.returns-clause-listed
returns-clause-listed c = in_facts
