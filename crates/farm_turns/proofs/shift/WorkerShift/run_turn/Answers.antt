use Rattle.std.proofs.Common.{◌∙◌}
use Rattle.std.proofs.lemmas.Result.{on_ok_weaker}
use Rattle.farm_turns.proofs.Progress.{at_turn}
use Rattle.farm_turns.proofs.shift.WorkerShift.run_turn.Goals as goal

pub returns-clause-turned : goal.returns-clause-turned
returns-clause-turned g c =
    let received = c.in_ok-receive_parcels_into_node.ensures.rules in
    let kept = c.in_ok-keep_node_state_if_due.ensures.rules ∙ (c.in_ok-lease_and_make_one_tile.ensures.rules ∙ received) in
    on_ok_weaker c.restart_node_if_due.result (at_turn g.P.WorkerPlace.has_log c.args.self.now.rules c.receive_parcels_into_node.new.self.rules c.keep_node_state_if_due.new.self.rules c.args.turn received kept
    c.announce_turn.ensures c.in_ok-receive_parcels_into_node.ensures.received c.in_ok-lease_and_make_one_tile.ensures.worked c.in_ok-keep_node_state_if_due.ensures.kept) c.restart_node_if_due.ensures.restarted
