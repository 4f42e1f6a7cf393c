use Rattle.std.proofs.Common.{ℕ, ◌<◌, ◌≡◌, Some, None, cond, eqb, length, slice_get}
use Rattle.pipe_checks.proofs.cycles.init_cycle_distances.Given as goal

abbrev pub invariant-loop-stage : goal.invariant-loop-stage
invariant-loop-stage l =
    (length l.far.items ≡ l.stage) × ((t : ℕ) → t < l.stage → slice_get l.far.items t ≡ Some (cond (eqb t l.goal) (Some 0) None))
