use Rattle.std.proofs.Common.{◌≡◌, List, [], Some, false, true≢false, sym, subst, ◌∙◌, ap}
use Rattle.std.specs.Prelude.{slice_get}
use Rattle.std.proofs.lemmas.List.Elements.{All-push}
use Rattle.job.specs.Formula.{Formula}
use Rattle.job.specs.Kept.{pipeline_in}
use Rattle.job.specs.Pipeline.{function, Stage}
use Rattle.job.specs.Views.{body_view, formula_view, stage_view}
use Rattle.joined_formulas.specs.Joins.{AreFormulasOf, IsFormulaOf, IsKnown, Joins}
use Rattle.joined_formulas.specs.declared.known.StageFormula.{StageFormula}
use Rattle.normal_jobs.proofs.Whole.{known_of}
use Rattle.normal_jobs.proofs.joins.push_normal_join.Goals as goal

pub returns-in_ok-push : goal.returns-in_ok-push
returns-in_ok-push c = λ of.
    let job = pipeline_in c.args.job.now in
    let known : List StageFormula = c.args.known.now.items in
    let s : Stage = stage_view c.in-Some.stage.now in
    let f : Formula = formula_view c.in-Some-find_only_part_formula.formula.now in
    let h : Formula = formula_view c.in_ok-formula.formula in
    let there : slice_get job.stages c.args.number ≡ Some s = sym c.in-Some.ensures in
    let body : s.body ≡ function [] (Some f) = sym (ap body_view c.body.ensures) ∙ c.in-Some-find_only_part_formula.ensures in
    let joins : Joins known f h = subst (λ (ks : List StageFormula). Joins ks f h) c.deref.ensures.value c.in_ok-formula.ensures in
    let is : IsFormulaOf job c.args.number h = known_of job c.args.job.now.well c.args.number s there f body known of h joins in
    subst (λ (ks : List StageFormula). AreFormulasOf job ks) (sym c.in_ok-push.ensures.items)
    (All-push (IsKnown job) known (record { stage = c.args.number; formula = c.in_ok-formula.formula; whole = false }) of
    (record { formula = is; whole = λ yes. absurd (true≢false (sym yes)) }))
