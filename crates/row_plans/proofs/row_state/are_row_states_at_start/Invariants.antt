use Rattle.std.proofs.Common.{◌≡◌, All, take}
use Rattle.row_plans.proofs.row_state.are_row_states_at_start.Given as goal

abbrev pub invariant-loop-state : goal.invariant-loop-state
invariant-loop-state l = All (λ state. state.next ≡ state.first) (take l.state-index l.states)
