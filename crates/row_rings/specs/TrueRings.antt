-- Rings whose numbers are the values of a job, and room to make more.
use Rattle.std.specs.Prelude.{ℕ, ◌≡◌, ℤ, Bool, false, Some, List, slice_get, slice_index_or}
use Rattle.domains.specs.Span.{len_of}
use Rattle.job.specs.Pipeline.{Body, plane, function, accumulator, Stage, Pipeline}
use Rattle.job.specs.Values.{value}
use Rattle.row_plans.specs.Rows.{IsKeptRow}
use Rattle.row_rings.specs.RingRows.{sample_in, IsKeptPoint}
use Rattle.row_rings.specs.declared.ring.RowRing.{RowRing}
use Rattle.tile_eval.specs.Reading.{HasFunctionRoom}

-- each number that is kept is the value of the stage there
abbrev pub AreTrueRings : Pipeline → List (RowRing ℤ) → Type 0
AreTrueRings job rings = (g : ℕ) (r c : ℤ) → IsKeptPoint rings g r c → sample_in rings g r c ≡ value job g r c

-- a ring that keeps a row has the domain of its stage
abbrev pub ArePlacedRings : Pipeline → List (RowRing ℤ) → Type 0
ArePlacedRings job rings =
    (g : ℕ) (ring : RowRing ℤ) (s : Stage) (r : ℤ) → slice_get rings g ≡ Some ring → slice_get job.stages g ≡ Some s
    → IsKeptRow ring.state r → ring.state.area ≡ s.domain

-- room numbers are enough to make a row of n points of a stage
abbrev pub HasBodyRoom : ℕ → ℕ → Body → Type 0
HasBodyRoom n room (plane m) = Unit {0}
HasBodyRoom n room (function cases otherwise) = HasFunctionRoom n room cases otherwise
HasBodyRoom n room (accumulator fold bins value bin) = Unit {0}

abbrev pub HasStageRoom : Pipeline → ℕ → ℕ → ℕ → Type 0
HasStageRoom job g n room = (s : Stage) → slice_get job.stages g ≡ Some s → HasBodyRoom n room s.body

-- or a row of its domain
abbrev pub HasOwnRoom : Pipeline → ℕ → ℕ → Type 0
HasOwnRoom job g room = (s : Stage) → slice_get job.stages g ≡ Some s → HasBodyRoom (len_of s.domain.cols) room s.body

-- room numbers are enough for each stage that is computed in 16 bits, or for each other one
abbrev pub AreRoomy : Pipeline → List Bool → Bool → ℕ → Type 0
AreRoomy job computed narrow room = (g : ℕ) → slice_index_or computed g false ≡ narrow → HasOwnRoom job g room
