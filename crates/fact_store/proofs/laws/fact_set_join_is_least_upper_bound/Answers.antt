use Rattle.fact_store.proofs.SetLaws.{join_comm, join_assoc, join_idem, join_nothing, subset_left, subset_right, join_least}
use Rattle.fact_store.proofs.laws.fact_set_join_is_least_upper_bound.Goals as goal

pub returns-clause-commutative : goal.returns-clause-commutative
returns-clause-commutative c = join_comm

pub returns-clause-associative : goal.returns-clause-associative
returns-clause-associative c = join_assoc

pub returns-clause-idempotent : goal.returns-clause-idempotent
returns-clause-idempotent c = join_idem

pub returns-clause-neutral : goal.returns-clause-neutral
returns-clause-neutral c = join_nothing

pub returns-clause-first : goal.returns-clause-first
returns-clause-first c = subset_left

pub returns-clause-second : goal.returns-clause-second
returns-clause-second c = subset_right

pub returns-clause-least : goal.returns-clause-least
returns-clause-least c = join_least
