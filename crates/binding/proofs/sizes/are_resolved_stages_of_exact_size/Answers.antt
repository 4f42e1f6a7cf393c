use Rattle.std.proofs.Common.{rules, ℕ, List, get_or, subst, refl, arith}
use Rattle.std.specs.Prelude.{All}
use Rattle.std.proofs.lemmas.List.{take_all}
use Rattle.std.proofs.lemmas.List.Elements.{All-more}
use Rattle.job.specs.Views.{pipeline_of}
use Rattle.binding.specs.Fits.{HasSides}
use Rattle.binding.proofs.sizes.are_resolved_stages_of_exact_size.Goals as goal

pub loop-stage-preserved : goal.loop-stage-preserved
loop-stage-preserved c =
    let here : HasSides (pipeline_of c.args.pipeline.now) c.args.rows c.args.columns (get_or c.args.stages.now c.loop-stage.stage-index 0) =
    search rules in
    All-more (HasSides (pipeline_of c.args.pipeline.now) c.args.rows c.args.columns) c.args.stages.now c.loop-stage.stage-index 0
    c.loop-stage-test.true c.loop-stage.invariant here

pub returns : goal.returns
returns c = (
  λ _. subst (λ (l : List ℕ). All (HasSides (pipeline_of c.args.pipeline.now) c.args.rows c.args.columns) l)
      (take_all c.loop-stage.stage-index c.args.stages.now (omega arith)) c.loop-stage.invariant,
  λ _. refl,
)
