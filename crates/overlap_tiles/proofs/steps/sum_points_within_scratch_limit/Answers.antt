use Rattle.std.proofs.Common.{arith, map}
use Rattle.tile_boxes.specs.Costs.{points_in}
use Rattle.overlap_tiles.specs.Views.{step_view}
use Rattle.overlap_tiles.proofs.PointsAreFew.{next_below}
use Rattle.overlap_tiles.proofs.steps.sum_points_within_scratch_limit.Goals as goal

pub returns-then-total-gt-MOST_SCRATCH-clause-many : goal.returns-then-total-gt-MOST_SCRATCH-clause-many
returns-then-total-gt-MOST_SCRATCH-clause-many c =
    let most = next_below c.args.steps.now c.loop-step.step-index c.step-item.result c.loop-step.total
    (points_in (map step_view c.args.steps.now)) c.loop-step-test.true c.step-item.is c.loop-step.invariant.0 in
    omega arith
