-- What is kept of a stage once it is computed, and what is learned on the way.
use Rattle.std.specs.Prelude.{ℕ, ◌≡◌, Option, Some, List, slice_get, All}
use Rattle.job.specs.Pipeline.{Stage, Pipeline}
use Rattle.job.specs.Reads.{stage_read, reads_of}
use Rattle.job.specs.WellFormed.{IsValued}
use Rattle.whole_stages.specs.Known.{IsKnown, IsWholeOf, AreKnownOf}
use Rattle.whole_stages.specs.declared.buffers.StageBuffer.{StageBuffer}

-- what is kept of stage g: its values on its domain, if it has any
pub record IsKept (job : Pipeline) (g : ℕ) (kept : Option StageBuffer) : Type 0 where
  pub right : (whole : StageBuffer) → kept ≡ Some whole → IsWholeOf job g whole
  pub valued : (s : Stage) → slice_get job.stages g ≡ Some s → IsValued s.body → (whole : StageBuffer) × (kept ≡ Some whole)

-- the values of all that stage g reads are known
abbrev pub HasInputs : Pipeline → List (Option StageBuffer) → ℕ → Type 0
HasInputs job buffers g =
    (s : Stage) → slice_get job.stages g ≡ Some s → All (λ x. AreKnownOf job buffers (stage_read x)) (reads_of s.body)

-- what was known stays known
abbrev pub KnowsMore : List (Option StageBuffer) → List (Option StageBuffer) → Type 0
KnowsMore old new = (g : ℕ) → IsKnown old g → IsKnown new g
