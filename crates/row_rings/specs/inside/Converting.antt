-- The next row of a ring, from a line of numbers.
use Rattle.std.specs.Prelude.{ℕ, ◌+◌, ◌<◌, ◌≡◌, ◌≢◌, ◌⊎◌, ℤ, Some, None, List, length, slice_get, FitsSigned}
use Rattle.std.specs.Int.{w16}
use Rattle.domains.specs.Span.{len_of}
use Rattle.row_loops.specs.Rows.{EachPlace, at}
use Rattle.row_plans.specs.Rows.{one_row_more}
use Rattle.row_rings.specs.RingRows.{row_at}
use Rattle.row_rings.specs.declared.ring.RowRing.{RowRing}

-- a ring once a line is its next row: as many of the rows before it as are kept stay as they are
pub record HasRowMore (line : List ℤ) (old new : RowRing ℤ) : Type 0 where
  pub state : new.state ≡ one_row_more old.state
  pub older : (y : ℕ) → y < old.state.next → old.state.next < y + old.state.kept → row_at new y ≡ row_at old y
  pub made : EachPlace (len_of old.state.area.cols) (λ k. at (row_at new old.state.next) k ≡ at line k)

-- if rows of stage g are kept, one more is to be made, and the line has as many numbers as they
pub record IsRowFor (g : ℕ) (line : List ℤ) (rings : List (RowRing ℤ)) : Type 0 where
  pub few : (ring : RowRing ℤ) → slice_get rings g ≡ Some ring → 0 < ring.state.kept → ring.state.next < 2097153
  pub count : (ring : RowRing ℤ) → slice_get rings g ≡ Some ring → 0 < ring.state.kept → length line ≡ len_of ring.state.area.cols

-- and they fit in 16 bits
abbrev pub IsFittingRowFor : ℕ → List ℤ → List (RowRing ℤ) → Type 0
IsFittingRowFor g line rings =
    (ring : RowRing ℤ) → slice_get rings g ≡ Some ring → 0 < ring.state.kept
    → EachPlace (length line) (λ k. FitsSigned w16 (at line k))

-- the rings once a line is the next row of stage g, if rows of it are kept
pub record AreWithRow (g : ℕ) (line : List ℤ) (old new : List (RowRing ℤ)) : Type 0 where
  pub others : (h : ℕ) → h ≢ g → slice_get new h ≡ slice_get old h
  pub none : slice_get old g ≡ None → slice_get new g ≡ None
  pub own : (ring : RowRing ℤ) → slice_get old g ≡ Some ring
      → (next : RowRing ℤ) × (slice_get new g ≡ Some next)
      × (((ring.state.kept ≡ 0) × (next ≡ ring)) ⊎ HasRowMore line ring next)
