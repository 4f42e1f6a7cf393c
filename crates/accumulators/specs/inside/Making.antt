-- Intermediate states on the way to the answer of a job.
use Rattle.std.specs.Prelude.{ℕ, ℤ, ◌≡◌, true, Some, None, List, slice_get, map, fold}
use Rattle.std.specs.List.{range_with_len}
use Rattle.domains.specs.Span.{Ends}
use Rattle.domains.specs.Tiles.{tile_area, tile_cols}
use Rattle.domains.specs.declared.grid.Grid.{Grid}
use Rattle.grouping.specs.Inlining.{IsScheduleOf}
use Rattle.operators.specs.declared.operator.ReductionOp.{ReductionOp}
use Rattle.job.specs.Answers.{grid_of}
use Rattle.job.specs.Formula.{Formula}
use Rattle.job.specs.Kept.{pipeline_in}
use Rattle.job.specs.Pipeline.{accumulator, Stage, Pipeline}
use Rattle.job.specs.Totals.{totals_over}
use Rattle.tile_sources.specs.KnownTiles.{AreTrue}
use Rattle.tile_run.specs.StageRuns.{GivesNeedsOf}
use Rattle.tile_run.specs.Stored.{stored_tiles}
use Rattle.tile_run.specs.Work.{first_too_big, is_accumulator_at}
use Rattle.accumulators.specs.declared.computed.ComputedJob.{ComputedJob}
use Rattle.accumulators.specs.declared.totals.TiledAccumulation.{TiledAccumulation}
use Rattle.reductions.specs.Bins.{joined_bins, starts}
use Rattle.reductions.specs.Accumulating.{AreBins}
use Rattle.reductions.specs.GatherRooms.{IsAccumulatorOf}

-- the tiles of stored functions that the accumulators of the job need are available, with the job's values
pub record IsComputed (c : ComputedJob) : Type 0 where
  pub scheduled : IsScheduleOf (pipeline_in c.job.now) c.schedule.now
  pub needs : (g : ℕ) → is_accumulator_at (pipeline_in c.job.now) g ≡ true
      → GivesNeedsOf (pipeline_in c.job.now) c.schedule.now.inlining (stored_tiles c.stored.now.stages.items) g
  pub values : AreTrue (pipeline_in c.job.now) (stored_tiles c.stored.now.stages.items)

-- ---- totals

-- the tiles of all accumulators fit into scratch memory
abbrev pub TotalsFit : ComputedJob → Type 0
TotalsFit c = first_too_big (pipeline_in c.job.now) c.schedule.now.inlining (is_accumulator_at (pipeline_in c.job.now)) ≡ None

-- stage g is an accumulator with this operation, these bins and this grid
pub record IsGathered (job : Pipeline) (g : ℕ) (way : ReductionOp) (bins : Ends) (grid : Grid) : Type 0 where
  pub stage : Stage
  pub there : slice_get job.stages g ≡ Some stage
  pub value : Formula
  pub bin : Formula
  pub body : stage.body ≡ accumulator way bins value bin
  pub parted : grid ≡ grid_of job stage

-- an accumulator of a job whose stored functions are computed, and whose accumulators' tiles fit into scratch memory
pub record IsTally (t : TiledAccumulation) : Type 0 where
  pub computed : IsComputed t.of
  pub fits : TotalsFit t.of
  pub own : IsAccumulatorOf (pipeline_in t.of.job.now) t.stage t.accumulator.now
  pub gathered : IsGathered (pipeline_in t.of.job.now) t.stage t.accumulator.now.fold t.accumulator.now.bins t.grid

-- the bins after the totals over a tile came in
abbrev pub with_tile : Pipeline → ℕ → ReductionOp → Grid → List ℤ → ℕ × ℕ → List ℤ
with_tile job g way grid bins t = joined_bins way bins (totals_over job (tile_area grid t.0 t.1) g)

-- the bins of an accumulator that began with their initial values, after the totals over row i of the tiles came in
abbrev pub totals_of_row : TiledAccumulation → ℕ → List ℤ
totals_of_row t i =
    fold (with_tile (pipeline_in t.of.job.now) t.stage t.accumulator.now.fold t.grid) (starts t.accumulator.now.fold t.accumulator.now.bins)
    (map (λ j. (i, j)) (range_with_len 0 (tile_cols t.grid)))

-- the bins are these totals
pub record AreTotalsOfRow (t : TiledAccumulation) (i : ℕ) (bins : List ℤ) : Type 0 where
  pub are : AreBins t.accumulator.now bins
  pub totals : bins ≡ totals_of_row t i
