-- Rings: the rows of stages that were made last.
use Rattle.std.specs.Prelude.{ℕ, List, if◌then◌else◌}
use Rattle.row_plans.specs.declared.row_state.RowState.{RowState}
use Rattle.row_rings.specs.declared.job_rings.JobRings.{JobRings}
pub use Rattle.row_rings.specs.NarrowRings.{IsFittingStage, is_linear_shape, IsNarrowlyMade, AreNarrowlyMade}
pub use Rattle.row_rings.specs.RingForms.{IsWhole, IsWholeWhereKept, IsFittingWhereKept, IsServed, IsRightForm, AreRightForms, AreFewForms}
pub use Rattle.row_rings.specs.RingRows.{row_at, ring_row, number_at, number_in, sample_in, IsKeptIn, IsKeptPoint, ring_states}
pub use Rattle.row_rings.specs.TrueRings.{AreTrueRings, ArePlacedRings, HasBodyRoom, HasStageRoom, HasOwnRoom, AreRoomy}

-- which rows are kept
abbrev pub states_in : JobRings → List RowState
states_in rings = rings.states.items

-- the rows of stage g that are kept are kept as numbers of 32 bits
abbrev pub IsWideIn : JobRings → ℕ → Type 0
IsWideIn rings g = IsWhole (ring_states rings.wide.rings.items) (states_in rings) g

-- they are kept as numbers of 16 bits
abbrev pub IsNarrowIn : JobRings → ℕ → Type 0
IsNarrowIn rings g = IsWhole (ring_states rings.narrow.rings.items) (states_in rings) g

-- they are kept in the form of the outputs
abbrev pub IsOutputForm : JobRings → ℕ → Type 0
IsOutputForm rings g =
    IsWhole (if rings.narrow_outputs then ring_states rings.narrow.rings.items else ring_states rings.wide.rings.items)
    (states_in rings) g
