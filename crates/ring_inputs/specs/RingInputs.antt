-- What accumulators read: planes of the picture, and rows that rings keep.
use Rattle.std.specs.Prelude.{ℕ, ◌<◌, ◌≡◌, ℤ, Some, List, length, slice_get}
use Rattle.domains.specs.Area.{HoldsPoint}
use Rattle.domains.specs.Index.{index_at}
use Rattle.job.specs.Pipeline.{Body, plane, function, accumulator, Stage, Pipeline}
use Rattle.job.specs.Reads.{Read, point, window}
use Rattle.job.specs.Values.{kernel_row, sample_at, value}
use Rattle.job.specs.WellFormed.{picture_area}
use Rattle.row_rings.specs.Rings.{sample_in, IsKeptIn, IsKeptPoint}
use Rattle.row_rings.specs.declared.ring.RowRing.{RowRing}

-- ---- points

-- a plane has all its points, and a function those that are kept
abbrev pub IsInputOf : List (RowRing ℤ) → ℕ → ℤ → ℤ → Body → Type 0
IsInputOf rings g r c (plane n) = Unit {0}
IsInputOf rings g r c (function cases otherwise) = IsKeptPoint rings g r c
IsInputOf rings g r c (accumulator fold bins value bin) = ⊥

-- stage g has a value at the point of row r and column c, and it is available
pub record IsRingInput (job : Pipeline) (rings : List (RowRing ℤ)) (g : ℕ) (r c : ℤ) : Type 0 where
  pub stage : Stage
  pub there : slice_get job.stages g ≡ Some stage
  pub within : HoldsPoint stage.domain r c
  pub input : IsInputOf rings g r c stage.body

-- what is available of stage g are samples of plane n
pub record IsPlaneInput (job : Pipeline) (rings : List (RowRing ℤ)) (g n : ℕ) : Type 0 where
  pub plane : n < length job.picture.planes
  pub within : (r c : ℤ) → IsRingInput job rings g r c → HoldsPoint (picture_area job.picture) r c
  pub samples : (r c : ℤ) → IsRingInput job rings g r c → sample_at job.picture n r c ≡ value job g r c

-- it is in rings
pub record IsFunctionInput (job : Pipeline) (rings : List (RowRing ℤ)) (g : ℕ) : Type 0 where
  pub kept : (r c : ℤ) → IsRingInput job rings g r c → IsKeptPoint rings g r c
  pub samples : (r c : ℤ) → IsRingInput job rings g r c → sample_in rings g r c ≡ value job g r c

-- ---- rows

abbrev pub IsRowOf : List (RowRing ℤ) → ℕ → ℤ → Body → Type 0
IsRowOf rings g r (plane n) = Unit {0}
IsRowOf rings g r (function cases otherwise) = IsKeptIn rings g r
IsRowOf rings g r (accumulator fold bins value bin) = ⊥

-- the row of stage g is available
pub record IsInputRow (job : Pipeline) (rings : List (RowRing ℤ)) (g : ℕ) (r : ℤ) : Type 0 where
  pub stage : Stage
  pub there : slice_get job.stages g ≡ Some stage
  pub row : IsRowOf rings g r stage.body

-- P holds of the stage and of each of its rows that a read takes at row r
abbrev pub EachRowTaken : (ℕ → ℤ → Type 0) → Read → ℤ → Type 0
EachRowTaken P (point g i j) r = P g (index_at i r)
EachRowTaken P (window g kernel) r = (a : ℕ) → a < length kernel → P g (kernel_row kernel r a)
