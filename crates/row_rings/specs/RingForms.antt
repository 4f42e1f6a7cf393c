-- In which form the rows of stages are kept: a list of states for each form, and whether they are computed in 16 bits.
use Rattle.std.specs.Prelude.{ℕ, ◌<◌, ◌≤◌, ◌≡◌, Bool, false, if◌then◌else◌, Some, List, All, length, slice_get, slice_index_or}
use Rattle.job.specs.Pipeline.{Stage, Pipeline}
use Rattle.job.specs.Reads.{reads_of, stage_read}
use Rattle.job.specs.WellFormed.{IsValued}
use Rattle.row_plans.specs.declared.row_state.RowState.{RowState}
use Rattle.row_rings.specs.NarrowRings.{IsFittingStage}

-- all rows of stage g that are kept are kept in the form
abbrev pub IsWhole : List RowState → List RowState → ℕ → Type 0
IsWhole form states g = slice_get form g ≡ slice_get states g

-- so it is if any row of it is kept in the form
abbrev pub IsWholeWhereKept : List RowState → List RowState → ℕ → Type 0
IsWholeWhereKept form states g = (s : RowState) → slice_get form g ≡ Some s → 0 < s.kept → slice_get states g ≡ Some s

-- if any row of stage g is kept in the form, its values fit in 16 bits
abbrev pub IsFittingWhereKept : Pipeline → List RowState → ℕ → Type 0
IsFittingWhereKept job form g = (s : RowState) → slice_get form g ≡ Some s → 0 < s.kept → IsFittingStage job g

-- stage g is kept in the form, and if rows of it are made, so is each stage that it reads
pub record IsServed (job : Pipeline) (form states : List RowState) (g : ℕ) : Type 0 where
  pub own : IsWhole form states g
  pub reads : (s : Stage) → slice_get job.stages g ≡ Some s → IsValued s.body → All (λ x. IsWhole form states (stage_read x)) (reads_of s.body)

-- the forms of stage g are right: it can be computed in one, and in 16 bits only numbers are kept that fit in them
pub record IsRightForm (job : Pipeline) (states wide narrow : List RowState) (computed : List Bool) (g : ℕ) : Type 0 where
  pub wide_whole : IsWholeWhereKept wide states g
  pub narrow_whole : IsWholeWhereKept narrow states g
  pub fits : IsFittingWhereKept job narrow g
  pub served : IsServed job (if slice_index_or computed g false then narrow else wide) states g

abbrev pub AreRightForms : Pipeline → List RowState → List RowState → List RowState → List Bool → Type 0
AreRightForms job states wide narrow computed = (g : ℕ) → g < length states → IsRightForm job states wide narrow computed g

-- no form has more stages than there are states
abbrev pub AreFewForms : List RowState → List RowState → List RowState → Type 0
AreFewForms states wide narrow = (length wide ≤ length states) × (length narrow ≤ length states)
