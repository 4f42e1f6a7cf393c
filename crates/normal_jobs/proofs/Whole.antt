-- A function that is one formula: what may stand for the formula is known of the stage.
use Rattle.std.proofs.Common.{ℕ, ℤ, ◌≡◌, List, [], Some, ap, refl, sym, subst, ◌∙◌}
use Rattle.std.specs.Prelude.{All, slice_get}
use Rattle.std.proofs.lemmas.List.Elements.{All-head}
use Rattle.std.proofs.lemmas.Option.{same_Some}
use Rattle.domains.specs.Area.{HoldsPoint}
use Rattle.job.specs.Formula.{Formula}
use Rattle.job.specs.Pipeline.{Body, function, Stage, Pipeline}
use Rattle.job.specs.Reads.{BodyReads, EachRead, formulas_of}
use Rattle.job.specs.Values.{body_value, formula_value, value}
use Rattle.job.specs.WellFormed.{IsFormula, IsJob, IsReadable, IsStage, IsValued}
use Rattle.job.proofs.Solving.{near_fits, ranked_is, value_solves}
use Rattle.joined_formulas.specs.Joins.{AreFormulasOf, IsFormulaOf, Joins}
use Rattle.joined_formulas.specs.StandsIn.{StandsIn}
use Rattle.joined_formulas.specs.declared.known.StageFormula.{StageFormula}

module _ (job : Pipeline) (whole : IsJob job) (g : ℕ) (s : Stage) (there : slice_get job.stages g ≡ Some s) (f : Formula)
    (body : s.body ≡ function [] (Some f)) where
  stage : IsStage job s
  stage = whole.stages g s there

  is_formula : IsFormula f
  is_formula = All-head IsFormula f [] (subst (λ (b : Body). All IsFormula (formulas_of b)) body stage.formulas)

  inside : (r c : ℤ) → IsReadable job.stages g r c → HoldsPoint s.domain r c
  inside r c x = subst (λ (t : Stage). HoldsPoint t.domain r c) (same_Some x.stage s (sym x.there ∙ there)) x.within

  its_reads : (r c : ℤ) → IsReadable job.stages g r c → EachRead (IsReadable job.stages) f r c
  its_reads r c x = (subst (λ (b : Body). BodyReads (IsReadable job.stages) b r c) body (stage.reads r c (inside r c x))).1 f refl

  its_value : (r c : ℤ) → IsReadable job.stages g r c → value job g r c ≡ formula_value (value job) f r c
  its_value r c x =
      value_solves job (ranked_is job whole) g s there (subst IsValued (sym body) tt) r c (inside r c x)
      ∙ ap (λ (b : Body). body_value job.picture (value job) b r c) body

  pub known_of : (known : List StageFormula) → AreFormulasOf job known → (h : Formula) → Joins known f h → IsFormulaOf job g h
  known_of known of h x =
      let stands : StandsIn job f h = x.stands job whole of in
      record {
        formula = stands.formula is_formula;
        reads = λ r c at. stands.reads r c (its_reads r c at);
        value = λ r c at.
            stands.value r c is_formula (near_fits s.domain.rows r stage.rows (inside r c at).0)
            (near_fits s.domain.cols c stage.cols (inside r c at).1) (its_reads r c at)
            ∙ sym (its_value r c at);
      }
