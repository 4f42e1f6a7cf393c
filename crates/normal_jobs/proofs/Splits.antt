-- Stages that stand for others, and stages that stand for those behind them.
use Rattle.std.proofs.Common.{◌≡◌, List, ◌++◌, map, subst, sym, ap, ◌∙◌}
use Rattle.std.proofs.lemmas.List.{map-append}
use Rattle.job.specs.Pipeline.{Stage}
use Rattle.job.specs.Views.{stage_view}
use Rattle.job.specs.declared.stage.Stage.{Stage as KeptStage}
use Rattle.joined_formulas.specs.declared.known.StageFormula.{StageFormula}
use Rattle.normal_jobs.specs.StandIns.{StandsForStage, StandForStages}
use Rattle.normal_jobs.proofs.Zipped.{zip_append}

pub stand_behind : (known : List StageFormula) (stages more : List Stage) (made behind all : List KeptStage) → all ≡ made ++ behind
    → StandForStages known stages (map stage_view made) → StandForStages known more (map stage_view behind)
    → StandForStages known (stages ++ more) (map stage_view all)
stand_behind known stages more made behind all is x y =
    subst (StandForStages known (stages ++ more)) (sym (ap (map stage_view) is ∙ map-append stage_view made behind))
    (zip_append (StandsForStage known) stages (map stage_view made) more (map stage_view behind) x y)
