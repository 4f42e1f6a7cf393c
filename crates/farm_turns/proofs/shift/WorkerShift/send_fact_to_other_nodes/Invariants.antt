use Rattle.std.proofs.Common.{◌≡◌}
use Rattle.farm_turns.specs.Shifts.{IsAt}
use Rattle.farm_turns.specs.Turns.{Progress, after_sending_below}
use Rattle.farm_turns.proofs.shift.WorkerShift.send_fact_to_other_nodes.Given as goal

abbrev pub invariant-loop-node : goal.invariant-loop-node
invariant-loop-node g l =
    (l.self.rules ≡ l.fn.self.rules) × (l.node-end ≡ l.fn.self.rules.setup.nodes)
    × ((s : Progress) → IsAt {S = g.row.P.Denot} g.P.WorkerPlace.has_log l.fn.self.place l.fn.self.counts s
    → IsAt {S = g.row.P.Denot} g.P.WorkerPlace.has_log l.self.place l.self.counts (after_sending_below l.fn.self.rules l.fn.fact s l.node))
