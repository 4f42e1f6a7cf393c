use Rattle.std.proofs.Common.{ℕ, ◌≡◌, All, List, take}
use Rattle.row_plans.specs.Moved.{AreWindowsMoved}
use Rattle.row_plans.specs.declared.row_state.RowState.{RowState}
use Rattle.row_plans.proofs.row_state_repeats.are_row_state_outputs_moved.Given as goal

abbrev pub invariant-loop-output : goal.invariant-loop-output
invariant-loop-output l =
    (states : List RowState) (d : ℕ → ℕ) → AreWindowsMoved d states l.begun l.ended
    → All (λ output. d output ≡ l.height) (take l.output-index l.outputs)
