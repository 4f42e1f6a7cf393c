-- Row buffers with which an accumulator accumulates over an area, and which stage an accumulator is.
use Rattle.std.specs.Prelude.{ℕ, ◌≡◌, ◌≤◌, Some, length, slice_get}
use Rattle.domains.specs.Span.{len_of}
use Rattle.domains.specs.declared.area.Area.{Area}
use Rattle.job.specs.declared.stage.Accumulator.{Accumulator}
use Rattle.job.specs.Pipeline.{accumulator, Stage, Pipeline}
use Rattle.job.specs.Views.{formula_view}
use Rattle.reductions.specs.declared.row_buffers.AccumulatorBuffers.{AccumulatorBuffers}
use Rattle.reductions.specs.Accumulating.{HasRoomAlong}

-- there is capacity for a row of joined bytes, a row of values, a row of their bins, and operands
pub record HasRowsOver (a : Accumulator) (area : Area) (rows : AccumulatorBuffers) : Type 0 where
  pub joined : len_of area.cols ≤ length rows.joined.items
  pub values : len_of area.cols ≤ length rows.values.items
  pub bins_of : len_of area.cols ≤ length rows.bins_of.items
  pub temps : HasRoomAlong a (len_of area.cols) (length rows.temps.items)

-- stage g is this accumulator
pub record IsAccumulatorOf (job : Pipeline) (g : ℕ) (a : Accumulator) : Type 0 where
  pub stage : Stage
  pub there : slice_get job.stages g ≡ Some stage
  pub body : stage.body ≡ accumulator a.fold a.bins (formula_view a.value) (formula_view a.bin)
