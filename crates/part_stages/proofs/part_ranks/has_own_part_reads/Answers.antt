use Rattle.std.proofs.Common.{List, length, subst}
use Rattle.std.specs.Prelude.{All}
use Rattle.std.proofs.lemmas.List.{take_all}
use Rattle.job.specs.Kept.{pipeline_in}
use Rattle.job.specs.Views.{stage_view}
use Rattle.job.specs.declared.stage.Stage.{Stage as KeptStage}
use Rattle.part_stages.proofs.Closed.{closed_of, ReadsBelow}
use Rattle.part_stages.proofs.part_ranks.has_own_part_reads.Goals as goal

pub returns : goal.returns
returns c = λ yes.
    let kept = c.stages-stages.result.now in
    closed_of kept (pipeline_in c.args.job.now).stages c.stages-stages.ensures
    (subst (λ (ks : List KeptStage). All (λ s. ReadsBelow (length kept) (stage_view s)) ks)
    (take_all c.loop-stage.stage-index kept c.loop-stage-test.false) c.loop-stage.invariant)
