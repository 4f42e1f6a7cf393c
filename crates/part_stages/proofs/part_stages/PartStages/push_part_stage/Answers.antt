use Rattle.std.proofs.Common.{rules, ◌≡◌, ◌+◌, true, length, sym, subst}
use Rattle.job.specs.Formula.{Formula}
use Rattle.job.specs.Kept.{pipeline_in}
use Rattle.job.specs.Views.{formula_view, stage_view}
use Rattle.part_stages.specs.Parts.{IsPartStage}
use Rattle.part_stages.proofs.Pushing.{one_part_more}
use Rattle.part_stages.proofs.part_stages.PartStages.push_part_stage.Goals as goal

pub returns : goal.returns
returns c =
    let job = pipeline_in c.args.job.now in
    let is : IsPartStage job (formula_view c.in_ok-formula.formula) (stage_view c.in-Some.stage) =
    subst (λ (f : Formula). IsPartStage job f (stage_view c.in-Some.stage)) (sym c.in_ok-formula.ensures) (search rules) in
    let own : c.count_stages_of_part_ranks.result ≡ length job.stages = c.count_stages_of_part_ranks.ensures in
    let more : c.len.result ≡ length c.args.self.now.stages.items = search rules in
    one_part_more job c.args.self.now (record { stages = c.push.new.self; known = c.push-2.new.self }) c.in-Some.stage
    (record { stage = c.count_stages_of_part_ranks.result + c.len.result; formula = c.in_ok-formula.formula; whole = true })
    c.in_ok-push.ensures.items c.in_ok-push-2.ensures.items is (λ i. own i + more i) (search rules)
