use Rattle.std.proofs.Common.{◌≡◌, ◌++◌, ◌-◌, ◌+ℤ◌, pos}
use Rattle.domains.specs.Span.{len_of, numbers_of}
use Rattle.tile_eval.specs.Raster.{raster}
use Rattle.whole_stages.specs.Known.{buffer_value}
use Rattle.tile_eval.proofs.RowByRow.{rest_of}
use Rattle.whole_stages.proofs.buffers.StageBuffer.copy_area_values.Given as goal

abbrev pub invariant-loop-place : goal.invariant-loop-place
invariant-loop-place l =
    l.values.items
    ++ rest_of (λ p. buffer_value l.self p.0 p.1) (l.area.rows.lo +ℤ pos l.place) (len_of l.area.rows - l.place)
    (numbers_of l.area.cols)
    ≡ raster l.area (buffer_value l.self)
