use Rattle.states.proofs.JoinLaws.{below_both, join_assoc, join_comm, join_first, join_idem, join_is_state, join_least, join_nothing, join_second}
use Rattle.states.proofs.laws.state_join_is_least_upper_bound.Goals as goal

pub returns-clause-commutative : goal.returns-clause-commutative
returns-clause-commutative c = join_comm

pub returns-clause-associative : goal.returns-clause-associative
returns-clause-associative c = join_assoc

pub returns-clause-idempotent : goal.returns-clause-idempotent
returns-clause-idempotent c = join_idem

pub returns-clause-neutral : goal.returns-clause-neutral
returns-clause-neutral c = join_nothing

pub returns-clause-state : goal.returns-clause-state
returns-clause-state c = join_is_state

pub returns-clause-first : goal.returns-clause-first
returns-clause-first c = join_first

pub returns-clause-second : goal.returns-clause-second
returns-clause-second c = join_second

pub returns-clause-least : goal.returns-clause-least
returns-clause-least c = join_least

pub returns-clause-apart : goal.returns-clause-apart
returns-clause-apart c = below_both
