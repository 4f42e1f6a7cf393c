-- Lives: how long what a step computes is still read. Steps are stages with their areas; each has its place in a list.
use Rattle.std.specs.Prelude.{ℕ, ◌≤◌, ◌≡◌, ◌⊎◌, Some, List, map, slice_get, Contains}
use Rattle.domains.specs.declared.area.Area.{Area}
use Rattle.job.specs.Pipeline.{Stage, Pipeline}
use Rattle.job.specs.Reads.{stage_read, reads_of}

-- an expression of stage g has a read of stage h
pub record DoesRead (job : Pipeline) (g h : ℕ) : Type 0 where
  pub stage : Stage
  pub there : slice_get job.stages g ≡ Some stage
  pub reads : Contains (map stage_read (reads_of stage.body)) h

-- the step at place m reads the one at place k
pub record IsReadAt (job : Pipeline) (steps : List (ℕ × Area)) (k m : ℕ) : Type 0 where
  pub read : ℕ × Area
  pub reader : ℕ × Area
  pub there : slice_get steps k ≡ Some read
  pub reader_there : slice_get steps m ≡ Some reader
  pub reads : DoesRead job reader.0 read.0

-- place m lies in the life of the step at place k, which goes from there to the last step that reads it
abbrev pub IsInLife : Pipeline → List (ℕ × Area) → ℕ → ℕ → Type 0
IsInLife job steps k m = (k ≤ m) × ((m ≡ k) ⊎ ((n : ℕ) × (m ≤ n) × IsReadAt job steps k n))

-- the lives of two steps have a place in common
abbrev pub LivesMeet : Pipeline → List (ℕ × Area) → ℕ → ℕ → Type 0
LivesMeet job steps k l = (m : ℕ) × IsInLife job steps k m × IsInLife job steps l m
