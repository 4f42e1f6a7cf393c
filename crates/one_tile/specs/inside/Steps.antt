-- What is computed of an inlined function, or of a tile, from what is available.
use Rattle.std.specs.Prelude.{ℕ, ℤ, ◌+◌, ◌-◌, ◌<◌, ◌≤◌, ◌≡◌, Bool, Option, Some, List, length, slice_get, All}
use Rattle.domains.specs.Area.{HoldsPoint, point_count}
use Rattle.domains.specs.Span.{len_of}
use Rattle.domains.specs.declared.area.Area.{Area}
use Rattle.job.specs.Formula.{Formula}
use Rattle.job.specs.Pipeline.{JobCase, function, Stage, Pipeline}
use Rattle.overlap_tiles.specs.Lives.{IsReadAt}
use Rattle.overlap_tiles.specs.Plans.{TileLayout}
use Rattle.tile_eval.specs.Raster.{place_of}
use Rattle.tile_eval.specs.Reading.{HasFunctionRoom}
use Rattle.tile_eval.specs.Rows.{at}
use Rattle.one_tile.specs.declared.scratch_view.TileScratchView.{TileScratchView}
use Rattle.tile_sources.specs.KnownTiles.{KnownTiles}
use Rattle.one_tile.specs.Local.{local_value, IsProvided}
use Rattle.one_tile.specs.Prepared.{IsPrepared}

-- stage g is the function of these cases, and of what holds elsewhere
pub record IsFunctionAt (job : Pipeline) (g : ℕ) (cases : List JobCase) (otherwise : Option Formula) : Type 0 where
  pub stage : Stage
  pub there : slice_get job.stages g ≡ Some stage
  pub body : stage.body ≡ function cases otherwise

-- all that stage g reads at the points of an area is available, where Inner says which points of inlined functions are available
abbrev pub IsReadyOver : Pipeline → List Bool → KnownTiles → (ℕ → ℤ → ℤ → Type 0) → ℕ → Area → Type 0
IsReadyOver job inlining given Inner g area = (r c : ℤ) → HoldsPoint area r c → IsProvided job inlining given Inner g r c

-- ---- a list of steps, each a stage and an area

-- Inner holds of each point that a step before place k computes, if the one at place k reads that step
abbrev pub FindsEarlier : Pipeline → List (ℕ × Area) → ℕ → (ℕ → ℤ → ℤ → Type 0) → Type 0
FindsEarlier job steps k Inner =
    (p h : ℕ) (area : Area) → p < k → slice_get steps p ≡ Some (h, area) → IsReadAt job steps p k → (r c : ℤ) → HoldsPoint area r c
    → Inner h r c

-- the range of the step at place p has its local values
abbrev pub IsComputed : Pipeline → TileLayout → KnownTiles → List ℤ → ℕ → Type 0
IsComputed job l given memory p =
    (g : ℕ) (area : Area) (range : ℕ × ℕ) → slice_get l.steps p ≡ Some (g, area) → slice_get l.ranges p ≡ Some range
    → (r c : ℤ) → HoldsPoint area r c → at memory (range.0 + place_of area r c) ≡ local_value job l.inlining given g r c

-- this holds of each step before place m that a step from there on reads
abbrev pub AreComputed : Pipeline → TileLayout → KnownTiles → List ℤ → ℕ → Type 0
AreComputed job l given memory m = (p n : ℕ) → p < m → m ≤ n → IsReadAt job l.steps p n → IsComputed job l given memory p

-- this capacity suffices for the operands of a step
abbrev pub HasStepRoom : Pipeline → ℕ × Area → ℕ → Type 0
HasStepRoom job step room =
    (cases : List JobCase) (otherwise : Option Formula) → IsFunctionAt job step.0 cases otherwise
    → HasFunctionRoom (len_of step.1.cols) room cases otherwise

-- and for those of each of these steps
abbrev pub HasStepsRoom : Pipeline → List (ℕ × Area) → ℕ → Type 0
HasStepsRoom job steps room = All (λ step. HasStepRoom job step room) steps

-- ---- a step that writes its range

-- the memory before a range that starts there, and the memory after it, are borrowed
pub record AreLent (memory : List ℤ) (boxes : TileScratchView) (start : ℕ) : Type 0 where
  pub before_len : length boxes.before.now ≡ start
  pub before : (n : ℕ) → n < start → at boxes.before.now n ≡ at memory n
  pub behind_len : boxes.end + length boxes.behind.now ≡ length memory
  pub behind : (n : ℕ) → boxes.end ≤ n → n < length memory → at boxes.behind.now (n - boxes.end) ≡ at memory n

-- all that stage g reads over an area is available once the memory on either side of the area's range is borrowed
abbrev pub IsPreparedBeside : Pipeline → TileLayout → KnownTiles → List ℤ → ℕ → ℕ → Area → Type 0
IsPreparedBeside job l given memory start g area =
    (boxes : TileScratchView) → AreLent memory boxes start → boxes.end ≡ start + point_count area → IsPrepared job l given boxes g area
