use Rattle.std.proofs.Common.{arith, ◌+◌, List, map, take, subst, sym}
use Rattle.std.proofs.lemmas.List.{take_all}
use Rattle.job.specs.Pipeline.{Stage}
use Rattle.job.specs.Views.{stage_view}
use Rattle.job.specs.declared.stage.Stage.{Stage as KeptStage}
use Rattle.row_rings.specs.RingShapes.{AreShapesOf}
use Rattle.row_rings.specs.declared.ring_shapes.RingShape.{RingShape}
use Rattle.row_rings.proofs.Shapes.{shapes_more}
use Rattle.row_rings.proofs.ring_shapes.list_ring_shapes.Goals as goal

pub loop-stage-preserved : goal.loop-stage-preserved
loop-stage-preserved c =
    let after : List Stage = map stage_view (take (c.loop-stage.stage-index + 1) c.stages-stage-items.result.now) in
    subst (λ (xs : List RingShape). AreShapesOf xs after) (sym c.in_ok-push.ensures.items)
    (shapes_more c.loop-stage.shapes.items c.in_ok-find_ring_shape.field-0 c.stages-stage-items.result.now c.loop-stage.stage-index
    c.stage-item.result c.loop-stage-test.true c.stage-item.is c.loop-stage.invariant c.in_ok-find_ring_shape.ensures)

pub returns : goal.returns
returns c =
    let stages = c.stages-stage-items.result.now in
    let shapes = c.loop-stage.shapes.items in
    subst (AreShapesOf shapes) c.stages-stage-items.ensures
    (subst (λ (xs : List KeptStage). AreShapesOf shapes (map stage_view xs)) (take_all c.loop-stage.stage-index stages (omega (arith, c.loop-stage-test.false)))
    c.loop-stage.invariant)
