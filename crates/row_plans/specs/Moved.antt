-- States of which more rows are made, and reads that move with them.
use Rattle.std.specs.Prelude.{ℕ, zero, suc, ◌+◌, ◌*◌, ◌<◌, ◌≤◌, ◌≡◌, ℤ, pos, ◌+ℤ◌, ◌≤ℤ◌, List, [], ◌∷◌, All, Some, slice_get}
use Rattle.domains.specs.Span.{Holds, len_of}
use Rattle.row_plans.specs.Rows.{next_row}
use Rattle.row_plans.specs.Taken.{middle_row}
use Rattle.row_plans.specs.Windows.{AreWindowsOf}
use Rattle.row_plans.specs.declared.row_state.RowState.{RowState}
use Rattle.row_plans.specs.declared.row_state_window.RowStateWindow.{RowStateWindow}
use Rattle.row_plans.specs.declared.rows_read.RowsRead.{RowsRead}
use Rattle.row_plans.specs.declared.stage_rows_read.StageRowsRead.{StageRowsRead}

-- the state once n rows more are made
abbrev pub rows_more : ℕ → RowState → RowState
rows_more n s = record { area = s.area; kept = s.kept; first = s.first; next = s.next + n }

-- the states once d g rows more of each stage g are made
abbrev pub states_moved : (ℕ → ℕ) → List RowState → List RowState
states_moved d [] = []
states_moved d (s ∷ states) = rows_more (d zero) s ∷ states_moved (λ g. d (suc g)) states

-- n times as many rows
abbrev pub times_of : ℕ → (ℕ → ℕ) → ℕ → ℕ
times_of n d g = n * d g

-- between the windows d g rows of each stage g are made
pub record AreWindowsMoved (d : ℕ → ℕ) (states : List RowState) (begun ended : List RowStateWindow) : Type 0 where
  pub before : AreWindowsOf states begun
  pub after : AreWindowsOf (states_moved d states) ended

-- x is a read of stage g. Where d h rows more of each stage h are made, it takes rows that lie d x.stage rows farther
pub record IsReadMoved (d : ℕ → ℕ) (states : List RowState) (g : ℕ) (x : RowsRead) : Type 0 where
  pub moved : (s : RowState) → slice_get states g ≡ Some s → (r : ℤ) → next_row s ≤ℤ r → Holds x.rows (r +ℤ pos (d g))
      → Holds x.rows r × (middle_row x (r +ℤ pos (d g)) ≡ middle_row x r +ℤ pos (d x.stage))

-- and so for all reads of all stages
pub record AreReadsMoved (list : List StageRowsRead) (d : ℕ → ℕ) (states : List RowState) : Type 0 where
  pub each : (g : ℕ) (x : StageRowsRead) → slice_get list g ≡ Some x → All (IsReadMoved d states g) x.reads.items

-- d g rows more of each stage g can be made, if any are
pub record IsLeft (states : List RowState) (d : ℕ → ℕ) : Type 0 where
  pub left : (g : ℕ) (s : RowState) → slice_get states g ≡ Some s → 0 < d g → s.next + d g ≤ len_of s.area.rows

-- steps that make d g rows of each stage g and output height rows of the picture can be taken n times more
pub record CanRepeat (list : List StageRowsRead) (outputs : List ℕ) (d : ℕ → ℕ) (states : List RowState) (height n : ℕ) : Type 0 where
  pub reads : AreReadsMoved list d states
  pub outputs_moved : All (λ output. d output ≡ height) outputs
  pub left : IsLeft (states_moved d states) (times_of n d)
