-- Stages whose rows are kept and computed in 16 bits.
use Rattle.std.specs.Prelude.{ℕ, ◌<◌, ◌≡◌, ℤ, Bool, true, false, Some, List, length, slice_get, slice_index_or}
use Rattle.domains.specs.Area.{HoldsPoint}
use Rattle.job.specs.Pipeline.{Body, plane, function, accumulator, Stage, Pipeline}
use Rattle.job.specs.Values.{value}
use Rattle.job.specs.WellFormed.{IsFunction, IsValued}
use Rattle.row_plans.specs.declared.row_state.RowState.{RowState}
use Rattle.row_rings.specs.declared.ring_shapes.RingShape.{RingShape}
use Rattle.row_rings.specs.declared.ring_shapes.RingShape.TheVariants.{Linear, Pieces, Division, Phases, Formulas, Other}
use Rattle.value_ranges.specs.Narrow.{Fits16}
use Rattle.value_ranges.specs.Ranges.{IsNarrowBody}

-- each value of stage g fits in 16 bits
abbrev pub IsFittingStage : Pipeline → ℕ → Type 0
IsFittingStage job g =
    (s : Stage) → slice_get job.stages g ≡ Some s → IsValued s.body
    → (r c : ℤ) → HoldsPoint s.domain r c → Fits16 (value job g r c)

-- rows that are made as linear ones: from numbers of 16 bits, in 32 bits
abbrev pub is_linear_shape : RingShape → Bool
is_linear_shape (Linear row) = true
is_linear_shape (Pieces pieces) = false
is_linear_shape (Division step program) = false
is_linear_shape (Phases phases program) = false
is_linear_shape (Formulas program) = false
is_linear_shape Other = false

-- if stage g is a function and its rows are not made as linear ones, it is narrow at each point of its domain
abbrev pub IsNarrowlyMade : Pipeline → ℕ → RingShape → Type 0
IsNarrowlyMade job g shape =
    (s : Stage) → slice_get job.stages g ≡ Some s → IsFunction s.body → is_linear_shape shape ≡ false
    → (r c : ℤ) → HoldsPoint s.domain r c → IsNarrowBody (value job) s.body r c

-- and so for all stages that are computed in 16 bits
abbrev pub AreNarrowlyMade : Pipeline → List RowState → List RingShape → List Bool → Type 0
AreNarrowlyMade job states shapes computed =
    (g : ℕ) → g < length states → slice_index_or computed g false ≡ true
    → (shape : RingShape) → slice_get shapes g ≡ Some shape → IsNarrowlyMade job g shape
