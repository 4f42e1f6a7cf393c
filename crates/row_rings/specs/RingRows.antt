-- The rows of stages that were made last.
use Rattle.std.specs.Prelude.{ℕ, ◌+◌, ◌-◌, ◌≡◌, ℤ, pos, Some, List, [], map, slice_get, slice_index_or}
use Rattle.std.specs.Int.{int_gap}
use Rattle.std.specs.Option.{option_map_or}
use Rattle.domains.specs.Span.{Holds}
use Rattle.row_plans.specs.Rows.{IsKeptRow}
use Rattle.row_plans.specs.declared.row_state.RowState.{RowState}
use Rattle.row_rings.specs.declared.ring.RowRing.{RowRing}

-- ---- the rows of one stage

-- the numbers of row y, counted from the first one of the stage's domain: the last row made is the last of the ring
abbrev pub row_at : {T : Type 0} → RowRing T → ℕ → List T
row_at ring y = option_map_or (λ row. row.items) (slice_get ring.rows.items (y + ring.state.kept - ring.state.next)) []

-- the numbers of row r of the domain
abbrev pub ring_row : {T : Type 0} → RowRing T → ℤ → List T
ring_row ring r = row_at ring (int_gap ring.state.area.rows.lo r)

-- the number in column c, and d where there is none
abbrev pub number_at : {T : Type 0} → T → RowRing T → ℤ → ℤ → T
number_at d ring r c = slice_index_or (ring_row ring r) (int_gap ring.state.area.cols.lo c) d

-- ---- the rows of all stages

-- the number at a point of a stage, and d where there is none
abbrev pub number_in : {T : Type 0} → T → List (RowRing T) → ℕ → ℤ → ℤ → T
number_in d rings g r c = option_map_or (λ ring. number_at d ring r c) (slice_get rings g) d

abbrev pub sample_in : List (RowRing ℤ) → ℕ → ℤ → ℤ → ℤ
sample_in rings g r c = number_in (pos 0) rings g r c

-- the number of stage g at the point of row r and column c is kept
pub record IsKeptPoint {T : Type 0} (rings : List (RowRing T)) (g : ℕ) (r c : ℤ) : Type 0 where
  pub ring : RowRing T
  pub there : slice_get rings g ≡ Some ring
  pub row : IsKeptRow ring.state r
  pub column : Holds ring.state.area.cols c

-- row r of stage g is kept
pub record IsKeptIn {T : Type 0} (rings : List (RowRing T)) (g : ℕ) (r : ℤ) : Type 0 where
  pub ring : RowRing T
  pub there : slice_get rings g ≡ Some ring
  pub row : IsKeptRow ring.state r

-- which rows are kept
abbrev pub ring_states : {T : Type 0} → List (RowRing T) → List RowState
ring_states rings = map (λ ring. ring.state) rings
