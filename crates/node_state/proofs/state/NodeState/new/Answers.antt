use Rattle.std.proofs.Common.{sym}
use Rattle.fact_store.specs.Facts as sets
use Rattle.states.specs.IdSets.{no_ids}
use Rattle.node_state.proofs.StateLaws.{nothing_is_state, still_state}
use Rattle.node_state.proofs.state.NodeState.new.Goals as goal

pub invariant_of-result : goal.invariant_of-result
invariant_of-result g c = still_state sets.nothing c.new.result no_ids c.new-2.result (sym c.new.ensures) (sym c.new-2.ensures) nothing_is_state
