use Rattle.std.proofs.Common.{arith, ◌<◌, length, ◌∙◌, sym, subst}
use Rattle.job.specs.Kept.{pipeline_in}
use Rattle.value_ranges.specs.inside.Found.{AreKnown}
use Rattle.value_ranges.proofs.Reaching.{known_replaced}
use Rattle.value_ranges.proofs.stages.improve_value_ranges_of_rank.Goals.{then-eq, else-eq}
use Rattle.value_ranges.proofs.stages.improve_value_ranges_of_rank.Goals as goal

pub loop-stage-preserved : goal.loop-stage-preserved
loop-stage-preserved c =
    let within : c.loop-stage.stage < length c.loop-stage.ranges =
    let same = c.loop-stage.invariant.0 in let test = c.loop-stage-test.true in omega (arith, same, test) in (
      c.if-eq.auto.ranges ∙ c.loop-stage.invariant.0,
      elim c.if-eq.branch [
        | then-eq w ↦ subst (AreKnown (pipeline_in c.args.job.now)) (sym w.ranges-is)
            (known_replaced (pipeline_in c.args.job.now) c.loop-stage.ranges c.loop-stage.stage w.find_value_range_of_stage.result c.loop-stage.invariant.1
            w.find_value_range_of_stage.ensures within)
        | else-eq w ↦ subst (AreKnown (pipeline_in c.args.job.now)) (sym w.ranges-is) c.loop-stage.invariant.1
      ],
    )
