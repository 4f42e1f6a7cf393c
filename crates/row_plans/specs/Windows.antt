-- Windows: states in the form in which reads are checked.
use Rattle.std.specs.Prelude.{ℕ, ◌<◌, ◌≤◌, ◌≡◌, pos, ◌+ℤ◌, ◌≤ℤ◌, Some, List, slice_get}
use Rattle.row_plans.specs.Rows.{next_row}
use Rattle.row_plans.specs.declared.row_state.RowState.{RowState}
use Rattle.row_plans.specs.declared.row_state_window.RowStateWindow.{RowStateWindow}

-- from the first row of the window up to before its next one all rows are kept. Up to its last one rows can be made
pub record IsWindowOf (s : RowState) (w : RowStateWindow) : Type 0 where
  pub lo : w.lo ≡ s.area.rows.lo
  pub next : w.next ≡ next_row s
  pub kept : w.kept ≡ pos s.kept
  pub begun : s.first ≤ s.next
  pub low : (s.area.rows.lo +ℤ pos s.first) ≤ℤ w.first
  pub oldest : w.next ≤ℤ (w.first +ℤ pos s.kept)
  pub high : w.next ≤ℤ (s.area.rows.hi +ℤ pos 1)
  pub last : w.last ≤ℤ s.area.rows.hi
  pub some : w.next ≤ℤ w.last → 0 < s.kept

-- stage g has a state of which this is the window
abbrev pub HasWindow : List RowState → ℕ → RowStateWindow → Type 0
HasWindow states g w = (s : RowState) × (slice_get states g ≡ Some s) × IsWindowOf s w

-- and so for all windows
abbrev pub AreWindowsOf : List RowState → List RowStateWindow → Type 0
AreWindowsOf states windows = (g : ℕ) (w : RowStateWindow) → slice_get windows g ≡ Some w → HasWindow states g w
