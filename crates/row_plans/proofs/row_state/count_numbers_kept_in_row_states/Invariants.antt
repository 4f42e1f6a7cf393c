use Rattle.std.proofs.Common.{◌≡◌, ◌+◌, ◌*◌, drop}
use Rattle.std.specs.Prelude.{fold}
use Rattle.domains.specs.Span.{len_of}
use Rattle.row_plans.specs.Rows.{numbers_kept}
use Rattle.row_plans.proofs.row_state.count_numbers_kept_in_row_states.Given as goal

-- what came so far, and the states that are left
abbrev pub invariant-loop-state : goal.invariant-loop-state
invariant-loop-state l = fold (λ n s. n + s.kept * len_of s.area.cols) l.count (drop l.state-index l.states) ≡ numbers_kept l.states
