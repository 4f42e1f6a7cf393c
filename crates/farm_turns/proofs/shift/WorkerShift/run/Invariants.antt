use Rattle.std.proofs.Common.{◌≡◌}
use Rattle.farm_turns.specs.Shifts.{IsAt, HasRun}
use Rattle.farm_turns.specs.Turns.{Progress}
use Rattle.farm_turns.proofs.shift.WorkerShift.run.Given as goal

abbrev pub invariant-loop-before : goal.invariant-loop-before
invariant-loop-before g l =
    (l.self.rules ≡ l.fn.self.rules) × (l.before-end ≡ l.fn.self.rules.setup.turns)
    × ((s : Progress) → IsAt {S = g.row.P.Denot} g.P.WorkerPlace.has_log l.fn.self.place l.fn.self.counts s
    → HasRun {S = g.row.P.Denot} g.P.WorkerPlace.has_log l.self.place l.self.counts l.fn.self.rules l.before s)
