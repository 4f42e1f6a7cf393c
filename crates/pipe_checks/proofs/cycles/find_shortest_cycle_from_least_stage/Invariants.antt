use Rattle.std.proofs.Common.{ℕ, suc, ◌<◌}
use Rattle.pipe_checks.specs.Graph.{Way}
use Rattle.pipe_checks.proofs.cycles.find_shortest_cycle_from_least_stage.Given as goal

abbrev pub invariant-loop-start : goal.invariant-loop-start
invariant-loop-start l = (s : ℕ) → s < l.start → (k : ℕ) → Way l.graph (suc k) s s → ⊥
