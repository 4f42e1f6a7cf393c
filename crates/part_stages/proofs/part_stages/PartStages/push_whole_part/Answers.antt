use Rattle.std.proofs.Common.{rules, ◌≡◌, [], Some, true, ap, sym, ◌∙◌}
use Rattle.std.specs.Prelude.{slice_get}
use Rattle.job.specs.Formula.{Formula}
use Rattle.job.specs.Kept.{pipeline_in}
use Rattle.job.specs.Pipeline.{function, Stage}
use Rattle.job.specs.Views.{body_view, formula_view, stage_view}
use Rattle.part_stages.specs.Parts.{IsWholeStage}
use Rattle.part_stages.proofs.Pushing.{one_known_more, whole_known}
use Rattle.part_stages.proofs.part_stages.PartStages.push_whole_part.Goals as goal

pub returns-in_ok-push : goal.returns-in_ok-push
returns-in_ok-push c = λ of.
    let job = pipeline_in c.args.job.now in
    let before = c.args.self.now in
    let s : Stage = stage_view c.in-Some.stage.now in
    let f : Formula = formula_view c.in_ok-copy_normal_formula.field-0 in
    let there : slice_get job.stages c.args.number ≡ Some s = sym c.in-Some.ensures in
    let body : s.body ≡ function [] (Some f) =
    sym (ap body_view c.body.ensures) ∙ c.in-Some-find_only_part_formula.ensures
    ∙ ap (λ (g : Formula). function [] (Some g)) (sym c.in_ok-copy_normal_formula.ensures) in
    let whole : IsWholeStage job s = search rules in
    one_known_more job before (record { stages = before.stages; known = c.push.new.self })
    (record { stage = c.args.number; formula = c.in_ok-copy_normal_formula.field-0; whole = true }) (search rules) c.in_ok-push.ensures.items
    (whole_known job before (record { stage = c.args.number; formula = c.in_ok-copy_normal_formula.field-0; whole = true }) s there body whole) of
