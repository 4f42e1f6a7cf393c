use Rattle.std.proofs.Common.{◌∙◌, ap}
use Rattle.node_state.specs.States.{facts_in, retired_in}
use Rattle.world_commands.proofs.Nodes.{held_there, node_more}
use Rattle.world_commands.proofs.holding.collect_world_node_reports.Goals as goal

pub loop-node-preserved : goal.loop-node-preserved
loop-node-preserved c =
    let network = c.args.world.now.network in
    let next = c.in_ok-from_state-in-Some.field-0 in
    let state = held_there network c.loop-node.node c.in-Some.state.now c.in-Some.ensures.held in
    node_more network c.loop-node.node c.loop-node.held.items c.push.new.self.items next c.loop-node.invariant
    c.in_ok-from_state-in-Some.ensures.node
    (c.in_ok-from_state-in-Some.ensures.retired ∙ ap retired_in state) (c.in_ok-from_state-in-Some.ensures.facts ∙ ap facts_in state)
    c.in_ok-push-in-Some.ensures.items
