use Rattle.std.proofs.Common.{rules}
use Rattle.pipe_checks.specs.inside.Search.{IsStepAt}
use Rattle.pipe_checks.proofs.Unknown.{pushed}
use Rattle.pipe_checks.proofs.cycles.compute_extended_cycle_distances.Goals as goal

pub loop-stage-preserved : goal.loop-stage-preserved
loop-stage-preserved c =
    let e = c.in_ok-push.ensures.items in
    let more =
    pushed (IsStepAt c.args.graph.now c.args.far.now c.args.steps) c.loop-stage.next.items c.loop-stage.stage c.compute_next_cycle_distance_of_stage.result
    c.loop-stage.invariant.0 c.loop-stage.invariant.1 c.compute_next_cycle_distance_of_stage.ensures in
    (search rules, rw e more)
