use Rattle.std.proofs.Common.{subst, sym}
use Rattle.states.proofs.JoinLaws.{join_first, join_least, join_second}
use Rattle.node_state.specs.States.{IsBelow, State}
use Rattle.gossip_core.specs.Steps.{held}
use Rattle.gossip_core.proofs.Following.{merged_held, others_held}
use Rattle.gossip_core.proofs.laws.accepted_merges_give_least_upper_bounds.Goals as goal

pub returns-clause-first : goal.returns-clause-first
returns-clause-first c u w new a b ok =
    subst (IsBelow (held w a)) (sym (merged_held u w new a b ok)) (join_first (held w a) (held w b))

pub returns-clause-second : goal.returns-clause-second
returns-clause-second c u w new a b ok =
    subst (IsBelow (held w b)) (sym (merged_held u w new a b ok)) (join_second (held w a) (held w b))

pub returns-clause-least : goal.returns-clause-least
returns-clause-least c u w new a b ok s one two =
    subst (λ (t : State). IsBelow t s) (sym (merged_held u w new a b ok)) (join_least (held w a) (held w b) s one two)

pub returns-clause-other : goal.returns-clause-other
returns-clause-other c u w new a b n ok differ = others_held u w new a b n ok differ
