use Rattle.fact_store.proofs.SetLaws.{with_swapped, with_twice, join_one_more}
use Rattle.fact_store.proofs.laws.fact_sets_ignore_order_and_repeats.Goals as goal

pub returns-clause-swapped : goal.returns-clause-swapped
returns-clause-swapped c = with_swapped

pub returns-clause-twice : goal.returns-clause-twice
returns-clause-twice c = with_twice

pub returns-clause-through : goal.returns-clause-through
returns-clause-through c = join_one_more
