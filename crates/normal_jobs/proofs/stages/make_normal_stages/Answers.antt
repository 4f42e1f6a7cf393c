use Rattle.std.proofs.Common.{◌+◌, List, map, take, subst, sym}
use Rattle.job.specs.Views.{stage_view}
use Rattle.job.specs.declared.stage.Stage.{Stage as KeptStage}
use Rattle.normal_jobs.specs.StandIns.{StandsForStage, StandForStages}
use Rattle.normal_jobs.proofs.Zipped.{zip_more}
use Rattle.normal_jobs.proofs.stages.make_normal_stages.Goals as goal

pub loop-stage-preserved : goal.loop-stage-preserved
loop-stage-preserved c =
    let given : List KeptStage = c.args.stages.now in
    subst (λ (made : List KeptStage). StandForStages c.args.known.now (map stage_view (take (c.loop-stage.stage-index + 1) given)) (map stage_view made))
    (sym c.in_ok-push.ensures.items)
    (zip_more (StandsForStage c.args.known.now) stage_view given c.loop-stage.made.items c.loop-stage.stage-index c.stage-item.result
    c.in_ok-make_normal_stage.field-0 c.loop-stage-test.true c.stage-item.is c.loop-stage.invariant c.in_ok-make_normal_stage.ensures)
