use Rattle.std.proofs.Common.{rules, ◌≤◌, ◌≡◌, List, length, map, subst}
use Rattle.std.specs.Prelude.{All}
use Rattle.std.proofs.lemmas.List.{take_all}
use Rattle.job.specs.Pipeline.{Stage}
use Rattle.job.specs.Reads.{rank_by}
use Rattle.job.specs.Views.{stage_view}
use Rattle.job.specs.declared.stage.Stage.{Stage as KeptStage}
use Rattle.normal_jobs.proofs.EachRanked.{each_at}
use Rattle.normal_jobs.proofs.ranks.have_normal_ranks.Goals as goal

pub returns : goal.returns
returns c = λ holds.
    let stages : List KeptStage = c.args.stages.now in
    let P : Stage → Type 0 = λ s. s.rank ≡ rank_by (map stage_view stages) s.body in
    let whole : length stages ≤ c.loop-stage.stage-index = search rules in
    let each : All (λ s. P (stage_view s)) stages =
    subst (λ (ss : List KeptStage). All (λ s. P (stage_view s)) ss) (take_all c.loop-stage.stage-index stages whole) c.loop-stage.invariant in
    each_at stage_view P stages each
