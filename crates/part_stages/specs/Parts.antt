-- Stages that have the values of parts of formulas.
use Rattle.std.specs.Prelude.{ℕ, ℤ, ◌*◌, ◌<◌, ◌≤◌, ◌≡◌, ◌++◌, List, [], Some, All, length, map, slice_get}
use Rattle.domains.specs.Area.{HoldsPoint}
use Rattle.domains.specs.Tiles.{tile_rows, tile_cols}
use Rattle.domains.specs.declared.area.Area.{Area}
use Rattle.job.specs.Formula.{Formula}
use Rattle.job.specs.OtherStages.{with_stages}
use Rattle.job.specs.Pipeline.{function, Stage, Pipeline}
use Rattle.job.specs.Reads.{Read, EachRead, EachTaken, rank_by, reads_in, reads_of, stage_read}
use Rattle.job.specs.Views.{formula_view, stage_view}
use Rattle.job.specs.WellFormed.{InDomainRange, IsFormula, IsReadable}
use Rattle.joined_formulas.specs.declared.known.StageFormula.{StageFormula}
use Rattle.part_stages.specs.declared.part_stages.PartStages.{PartStages}

-- ---- where parts have values

-- the points at which all that a read takes has a value
pub record IsReadArea (job : Pipeline) (x : Read) (area : Area) : Type 0 where
  pub inside : (r c : ℤ) → HoldsPoint area r c → EachTaken (IsReadable job.stages) x r c
  pub whole : (r c : ℤ) → EachTaken (IsReadable job.stages) x r c → HoldsPoint area r c

-- the points at which all that is read has a value
pub record IsPartArea (job : Pipeline) (reads : List Read) (area : Area) : Type 0 where
  pub inside : (r c : ℤ) → HoldsPoint area r c → All (λ x. EachTaken (IsReadable job.stages) x r c) reads
  pub whole : (r c : ℤ) → All (λ x. EachTaken (IsReadable job.stages) x r c) reads → HoldsPoint area r c

-- and a stage can have them
pub record IsStageArea (job : Pipeline) (reads : List Read) (area : Area) : Type 0 where
  pub points : IsPartArea job reads area
  pub rows : InDomainRange area.rows
  pub cols : InDomainRange area.cols
  pub few : tile_rows (record { area = area; sides = job.sides }) * tile_cols (record { area = area; sides = job.sides }) ≤ 65536

-- all stages that are read are among the first ones
abbrev pub AreBelow : ℕ → List Read → Type 0
AreBelow count reads = All (λ x. stage_read x < count) reads

-- the stages of a job read no others
abbrev pub IsClosed : Pipeline → Type 0
IsClosed job = All (λ s. AreBelow (length job.stages) (reads_of s.body)) job.stages

-- a stage has a value wherever all that it reads has one
pub record IsWholeStage (job : Pipeline) (s : Stage) : Type 0 where
  pub below : AreBelow (length job.stages) (reads_of s.body)
  pub whole : (r c : ℤ) → All (λ x. EachTaken (IsReadable job.stages) x r c) (reads_of s.body) → HoldsPoint s.domain r c

-- ---- stages of parts

-- a function that has the values of a formula, wherever all that it reads has one
pub record IsPartStage (job : Pipeline) (f : Formula) (s : Stage) : Type 0 where
  pub formula : IsFormula f
  pub below : AreBelow (length job.stages) (reads_in f)
  pub rank : s.rank ≡ rank_by job.stages (function [] (Some f))
  pub area : IsStageArea job (reads_in f) s.domain
  pub body : s.body ≡ function [] (Some f)

-- of some formula
pub record IsSomePartStage (job : Pipeline) (s : Stage) : Type 0 where
  pub formula : Formula
  pub is : IsPartStage job formula s

-- what is known of a stage: it is one formula at all points, and has a value wherever all has that this reads of the job's stages
pub record IsPartKnown (job : Pipeline) (stages : List Stage) (k : StageFormula) : Type 0 where
  pub stage : Stage
  pub there : slice_get stages k.stage ≡ Some stage
  pub body : stage.body ≡ function [] (Some (formula_view k.formula))
  pub below : AreBelow (length job.stages) (reads_in (formula_view k.formula))
  pub whole : (r c : ℤ) → EachRead (IsReadable job.stages) (formula_view k.formula) r c → HoldsPoint stage.domain r c

-- behind the stages of a job
abbrev pub stages_with : Pipeline → PartStages → List Stage
stages_with job parts = job.stages ++ map stage_view parts.stages.items

abbrev pub job_with : Pipeline → PartStages → Pipeline
job_with job parts = with_stages (stages_with job parts) job

pub record ArePartStages (job : Pipeline) (parts : PartStages) : Type 0 where
  pub each : All (IsSomePartStage job) (map stage_view parts.stages.items)
  pub known : All (IsPartKnown job (stages_with job parts)) parts.known.items
  pub few : length (stages_with job parts) ≤ 65536
