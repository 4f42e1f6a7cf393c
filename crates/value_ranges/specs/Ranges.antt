-- Between which numbers the values of stages lie.
use Rattle.std.specs.Prelude.{ℕ, ℤ, pos, negsuc, ◌≡◌, ◌≤ℤ◌, Some, List, slice_get, slice_index_or, All}
use Rattle.domains.specs.Area.{HoldsPoint}
use Rattle.job.specs.Pipeline.{Body, plane, function, accumulator, Stage, Pipeline}
use Rattle.job.specs.Values.{Valuation, value}
use Rattle.job.specs.Reads.{stage_read, reads_of}
use Rattle.job.specs.WellFormed.{IsValued}
use Rattle.value_ranges.specs.declared.value_range.ValueRange.{ValueRange}
use Rattle.value_ranges.specs.Narrow.{Fits16, IsNarrowFunction}

-- v lies between the ends of a range
pub record InRange (range : ValueRange) (v : ℤ) : Type 0 where
  pub low : range.lo ≤ℤ v
  pub high : v ≤ℤ range.hi

-- each value of a stage that has a range lies in it
abbrev pub AreRanges : Pipeline → List ValueRange → Type 0
AreRanges job ranges =
    (g : ℕ) (range : ValueRange) (s : Stage) → slice_get ranges g ≡ Some range → slice_get job.stages g ≡ Some s → IsValued s.body
    → (r c : ℤ) → HoldsPoint s.domain r c → InRange range (value job g r c)

-- both ends fit in 16 bits, and with them all numbers between
pub record IsNarrowRange (range : ValueRange) : Type 0 where
  pub low : Fits16 range.lo
  pub high : Fits16 range.hi

-- the stage of this number has a range whose ends fit in 16 bits
pub record HasNarrowRange (ranges : List ValueRange) (g : ℕ) : Type 0 where
  pub range : ValueRange
  pub there : slice_get ranges g ≡ Some range
  pub narrow : IsNarrowRange range

-- all numbers of 32 bits
abbrev pub full_range : ValueRange
full_range = record { lo = negsuc 2147483647; hi = pos 2147483647 }

-- the range of the stage of this number, and all numbers where none is listed
abbrev pub range_at : List ValueRange → ℕ → ValueRange
range_at ranges g = slice_index_or ranges g full_range

-- this range may be listed for the stage of this number
abbrev pub IsRangeOf : Pipeline → ℕ → ValueRange → Type 0
IsRangeOf job g range =
    (s : Stage) → slice_get job.stages g ≡ Some s → IsValued s.body
    → (r c : ℤ) → HoldsPoint s.domain r c → InRange range (value job g r c)

-- at a point of its domain a function is narrow, and no other stage is
abbrev pub IsNarrowBody : Valuation → Body → ℤ → ℤ → Type 0
IsNarrowBody env (plane n) r c = ⊥
IsNarrowBody env (function cases otherwise) r c = IsNarrowFunction env cases otherwise r c
IsNarrowBody env (accumulator fold bins value bin) r c = ⊥

-- the stage of this number is narrow at each point of its domain
abbrev pub IsNarrowStage : Pipeline → ℕ → Type 0
IsNarrowStage job g =
    (s : Stage) → slice_get job.stages g ≡ Some s → (r c : ℤ) → HoldsPoint s.domain r c → IsNarrowBody (value job) s.body r c

-- each stage that the stage of this number reads has a range whose ends fit in 16 bits
abbrev pub HasNarrowReads : Pipeline → List ValueRange → ℕ → Type 0
HasNarrowReads job ranges g =
    (s : Stage) → slice_get job.stages g ≡ Some s → All (λ x. HasNarrowRange ranges (stage_read x)) (reads_of s.body)
