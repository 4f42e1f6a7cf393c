use Rattle.fact_store.proofs.KeyLaws.{in_facts_of, in_lacked}
use Rattle.fact_store.proofs.laws.fact_set_key_and_lacked_facts_are_exact.Goals as goal

pub returns-clause-of_key : goal.returns-clause-of_key
returns-clause-of_key c = in_facts_of

pub returns-clause-lacked : goal.returns-clause-lacked
returns-clause-lacked c = in_lacked
