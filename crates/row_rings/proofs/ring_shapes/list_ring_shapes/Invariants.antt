use Rattle.std.proofs.Common.{map, take}
use Rattle.job.specs.Views.{stage_view}
use Rattle.row_rings.specs.RingShapes.{AreShapesOf}
use Rattle.row_rings.proofs.ring_shapes.list_ring_shapes.Given as goal

abbrev pub invariant-loop-stage : goal.invariant-loop-stage
invariant-loop-stage l = AreShapesOf l.shapes.items (map stage_view (take l.stage-index l.stage-items))
