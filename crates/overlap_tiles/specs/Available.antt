-- Where a step finds what it reads.
use Rattle.std.specs.Prelude.{ℕ, ◌<◌, ℤ, ◌≡◌, ◌⊎◌, Some, slice_get, Contains}
use Rattle.domains.specs.Area.{HoldsPoint}
use Rattle.domains.specs.Tiles.{tile_area}
use Rattle.domains.specs.declared.area.Area.{Area}
use Rattle.domains.specs.declared.grid.Grid.{Grid}
use Rattle.job.specs.Pipeline.{plane, Stage, Pipeline}
use Rattle.job.specs.Reads.{BodyReads}
use Rattle.job.specs.Readers.{grid_at}
use Rattle.tile_boxes.specs.Targets.{Target}
use Rattle.tile_boxes.specs.Costs.{steps}
use Rattle.overlap_tiles.specs.Lives.{IsReadAt}
use Rattle.overlap_tiles.specs.Needs.{needs}

-- stage g is a plane of the picture
pub record IsPlaneAt (job : Pipeline) (g : ℕ) : Type 0 where
  pub stage : Stage
  pub there : slice_get job.stages g ≡ Some stage
  pub number : ℕ
  pub plane : stage.body ≡ plane number

-- the point of stage g is computed by a step before the one at place k, which reads it
pub record IsComputedBefore (t : Target) (k g : ℕ) (r c : ℤ) : Type 0 where
  pub place : ℕ
  pub area : Area
  pub there : slice_get (steps t) place ≡ Some (g, area)
  pub before : place < k
  pub read : IsReadAt t.job (steps t) place k
  pub holds : HoldsPoint area r c

-- the point of stage g lies in a tile that is needed
pub record IsInNeededTile (t : Target) (g : ℕ) (r c : ℤ) : Type 0 where
  pub grid : Grid
  pub there : grid_at t.job g ≡ Some grid
  pub row : ℕ
  pub col : ℕ
  pub needed : Contains (needs t) (record { stage = g; row = row; col = col })
  pub holds : HoldsPoint (tile_area grid row col) r c

-- the step at place k finds this point in a plane, in what a step before it computes, or in a needed tile
abbrev pub IsAvailable : Target → ℕ → ℕ → ℤ → ℤ → Type 0
IsAvailable t k g r c = IsPlaneAt t.job g ⊎ (IsComputedBefore t k g r c ⊎ IsInNeededTile t g r c)

-- so does each step with all that it reads at each point of its area
abbrev pub ReadsAvailable : Target → Type 0
ReadsAvailable t =
    (k g : ℕ) (s : Stage) (a : Area) → slice_get (steps t) k ≡ Some (g, a) → slice_get t.job.stages g ≡ Some s
    → (r c : ℤ) → HoldsPoint a r c → BodyReads (IsAvailable t k) s.body r c
