-- Stages whose values are known on their whole domains.
use Rattle.std.specs.Prelude.{ℕ, ◌≡◌, ℤ, pos, Option, Some, None, List, slice_get, All}
use Rattle.domains.specs.Area.{HoldsPoint}
use Rattle.domains.specs.declared.area.Area.{Area}
use Rattle.job.specs.Pipeline.{Body, plane, function, accumulator, Stage, Pipeline}
use Rattle.job.specs.Reads.{stage_read, reads_of}
use Rattle.job.specs.WellFormed.{IsValued}
use Rattle.row_loops.specs.Rows.{at}
use Rattle.tile_eval.specs.Raster.{place_of, stage_values}
use Rattle.whole_stages.specs.declared.buffers.StageBuffer.{StageBuffer}

-- the value at a point
abbrev pub sample_in : Option (Option StageBuffer) → ℤ → ℤ → ℤ
sample_in None r c = pos 0
sample_in (Some None) r c = pos 0
sample_in (Some (Some whole)) r c = at whole.values.items (place_of whole.area r c)

-- the values of this stage are known at the point
pub record IsKnownAt (buffers : List (Option StageBuffer)) (g : ℕ) (r c : ℤ) : Type 0 where
  pub whole : StageBuffer
  pub there : slice_get buffers g ≡ Some (Some whole)
  pub within : HoldsPoint whole.area r c

-- ---- what is known is true

-- the values of stage g are known
abbrev pub IsKnown : List (Option StageBuffer) → ℕ → Type 0
IsKnown buffers g = (whole : StageBuffer) × (slice_get buffers g ≡ Some (Some whole))

-- the area on which a stage has values: the domain of a plane or a function
abbrev pub body_area : Area → Body → Option Area
body_area domain (plane n) = Some domain
body_area domain (function cases otherwise) = Some domain
body_area domain (accumulator fold bins value bin) = None

abbrev pub stage_area : Option Stage → Option Area
stage_area None = None
stage_area (Some s) = body_area s.domain s.body

-- the buffer has the values of stage g on its domain
abbrev pub IsWholeOf : Pipeline → ℕ → StageBuffer → Type 0
IsWholeOf job g whole = (stage_area (slice_get job.stages g) ≡ Some whole.area) × (whole.values.items ≡ stage_values job g)

-- whatever is known is true
abbrev pub AreTrue : Pipeline → List (Option StageBuffer) → Type 0
AreTrue job buffers = (g : ℕ) (whole : StageBuffer) → slice_get buffers g ≡ Some (Some whole) → IsWholeOf job g whole

-- the values of stage g are known, if it has any
abbrev pub AreKnownOf : Pipeline → List (Option StageBuffer) → ℕ → Type 0
AreKnownOf job buffers g = (s : Stage) → slice_get job.stages g ≡ Some s → IsValued s.body → IsKnown buffers g

-- what serves for stage g is known: the values of a plane or a function, and all that an accumulator reads
abbrev pub BodyServed : Pipeline → List (Option StageBuffer) → ℕ → Body → Type 0
BodyServed job buffers g (plane n) = IsKnown buffers g
BodyServed job buffers g (function cases otherwise) = IsKnown buffers g
BodyServed job buffers g (accumulator fold bins value bin) =
    All (λ x. AreKnownOf job buffers (stage_read x)) (reads_of (accumulator fold bins value bin))

abbrev pub IsServed : Pipeline → List (Option StageBuffer) → ℕ → Type 0
IsServed job buffers g = (s : Stage) → slice_get job.stages g ≡ Some s → BodyServed job buffers g s.body

-- the value of a buffer at a point
abbrev pub buffer_value : StageBuffer → ℤ → ℤ → ℤ
buffer_value whole r c = at whole.values.items (place_of whole.area r c)
