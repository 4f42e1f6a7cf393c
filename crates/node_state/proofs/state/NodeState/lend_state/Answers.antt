use Rattle.node_state.proofs.StateLaws.{lent_is_state}
use Rattle.node_state.proofs.state.NodeState.lend_state.Goals as goal

pub invariant_of-result : goal.invariant_of-result
invariant_of-result g c =
    lent_is_state c.self.inside.held c.in_ok-held.held c.args.keys.now c.self.inside.retired c.in_ok-retired.retired
    c.in_ok-held.ensures.lent c.in_ok-retired.ensures c.self.invariant
