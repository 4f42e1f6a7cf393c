-- Which rows of other stages a list of row reads takes at a row.
use Rattle.std.specs.Prelude.{ℕ, ℤ, ◌+ℤ◌, ◌≤ℤ◌, ◌≡◌, ◌≢◌, List, All, Some, slice_get}
use Rattle.std.specs.Option.{option_map_or}
use Rattle.domains.specs.Span.{Ends, Holds}
use Rattle.domains.specs.Index.{index_at}
use Rattle.job.specs.Pipeline.{Stage}
use Rattle.job.specs.Reads.{Read, EachTaken, CaseReads}
use Rattle.job.specs.ReadViews.{read_view}
use Rattle.job.specs.CaseViews.{case_view}
use Rattle.job.specs.declared.reads.Read.{Read as KeptRead}
use Rattle.job.specs.declared.stage.JobCase.{JobCase as KeptCase}
use Rattle.job.specs.WellFormed.{IsValued}
use Rattle.row_plans.specs.Rows.{IsKeptAt}
use Rattle.row_plans.specs.Plans.{AreReadsKept}
use Rattle.row_plans.specs.declared.row_state.RowState.{RowState}
use Rattle.row_plans.specs.declared.rows_read.RowsRead.{RowsRead}

-- row q of stage h is kept, and h is not the reader g
abbrev pub IsKeptFor : List RowState → ℕ → ℕ → ℤ → Type 0
IsKeptFor states g h q = (h ≢ g) × IsKeptAt states h q

-- the row from which x counts those that it takes at row r
abbrev pub middle_row : RowsRead → ℤ → ℤ
middle_row x r = option_map_or (λ i. index_at i r) x.index r

-- all rows that x takes at row r of the reader g are kept, and they are of another stage
pub record AreTakenKept (states : List RowState) (g : ℕ) (r : ℤ) (x : RowsRead) : Type 0 where
  pub kept : Holds x.rows r → (q : ℤ) → (middle_row x r +ℤ x.first) ≤ℤ q → q ≤ℤ (middle_row x r +ℤ x.last) → IsKeptFor states g x.stage q

-- and so for a read of a formula at the point of row r and column c
abbrev pub IsReadKept : List RowState → ℕ → ℤ → ℤ → Read → Type 0
IsReadKept states g r c x = EachTaken (λ h q d. (h ≢ g) × IsKeptAt states h q) x r c

-- a stage that has values reads no other rows than those of the list
pub record AreRowsReadOf (s : Stage) (reads : List RowsRead) : Type 0 where
  pub covered : IsValued s.body → (states : List RowState) (g : ℕ) (r : ℤ) → All (AreTakenKept states g r) reads → AreReadsKept states g s r

-- ---- lists that grow

-- whatever the second list keeps, the first one keeps
abbrev pub IsWider : List RowsRead → List RowsRead → Type 0
IsWider old new =
    (states : List RowState) (g : ℕ) (r : ℤ) → All (AreTakenKept states g r) new → All (AreTakenKept states g r) old

-- x takes at least what the read at this place takes, and what y takes
pub record IsJoined (found : List RowsRead) (y : RowsRead) (place : ℕ) (x : RowsRead) : Type 0 where
  pub known : RowsRead
  pub there : slice_get found place ≡ Some known
  pub takes : (states : List RowState) (g : ℕ) (r : ℤ) → AreTakenKept states g r x → AreTakenKept states g r known × AreTakenKept states g r y

-- the second list takes what the first one takes, and at these rows of the reader what the reads take
pub record AddsReads (old new : List RowsRead) (rows : Ends) (reads : List KeptRead) : Type 0 where
  pub wider : IsWider old new
  pub taken : (states : List RowState) (g : ℕ) (r c : ℤ) → Holds rows r → All (AreTakenKept states g r) new
      → All (λ x. IsReadKept states g r c (read_view x)) reads

-- and what the cases take
pub record AddsCases (old new : List RowsRead) (cases : List KeptCase) : Type 0 where
  pub wider : IsWider old new
  pub taken : (states : List RowState) (g : ℕ) (r c : ℤ) → All (AreTakenKept states g r) new
      → All (λ p. CaseReads (λ h q d. (h ≢ g) × IsKeptAt states h q) (case_view p) r c) cases
