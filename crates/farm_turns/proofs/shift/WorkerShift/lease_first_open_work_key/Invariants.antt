use Rattle.std.proofs.Common.{◌≡◌, ◌≤◌, ◌+◌, List, map, take, drop}
use Rattle.farm_turns.specs.Shifts.{IsAt}
use Rattle.farm_turns.specs.Turns.{Progress, PassReason, passed_key, after_passing_all}
use Rattle.identity.specs.declared.key.Key.{Key}
use Rattle.farm_turns.proofs.shift.WorkerShift.lease_first_open_work_key.Given as goal

abbrev pub invariant-loop-key : goal.invariant-loop-key
invariant-loop-key g l =
    (l.self.rules ≡ l.fn.self.rules) × (l.self.counts.settled ≤ l.fn.self.counts.settled + l.key-index)
    × ((s : Progress) → IsAt {S = g.row.P.Denot} g.P.WorkerPlace.has_log l.fn.self.place l.fn.self.counts s
    → (passed : List (Key × PassReason)) × (map passed_key passed ≡ take l.key-index (drop l.fn.self.counts.settled l.fn.self.rules.keys.now))
    × IsAt {S = g.row.P.Denot} g.P.WorkerPlace.has_log l.self.place l.self.counts (after_passing_all l.fn.self.rules l.fn.turn s passed))
