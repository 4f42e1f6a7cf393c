-- What stands for a stage has its value, and its totals, where what it reads has the values of the job.
use Rattle.std.proofs.Common.{ℕ, ◌≡◌, ℤ, pos, List, [], ◌∷◌, Bool, true, false, Option, Some, None, FitsSigned, w32, map, ap, ◌∙◌, refl}
use Rattle.std.specs.Prelude.{All, if◌then◌else◌}
use Rattle.std.specs.List.{AllZip}
use Rattle.std.specs.Ordering.{int_eq}
use Rattle.std.specs.Option.{ForSome, option_map_or}
use Rattle.std.proofs.lemmas.List.Elements.{All-head, All-tail, All-weaker}
use Rattle.domains.specs.Area.{HoldsPoint, IsArea, points_of}
use Rattle.domains.specs.Span.{Ends, numbers_of}
use Rattle.domains.specs.declared.area.Area.{Area}
use Rattle.netpbm.specs.Image.{Image}
use Rattle.operators.specs.declared.operator.ReductionOp.{ReductionOp}
use Rattle.job.specs.Boxes.{AreBoxed, box_of}
use Rattle.job.specs.Formula.{Formula, Test}
use Rattle.job.specs.Pipeline.{JobCase, Body, plane, function, accumulator, Pipeline}
use Rattle.job.specs.Reads.{EachRead, CaseReads, BodyReads, formulas_of, other_formula}
use Rattle.job.specs.Totals.{body_totals, total_of, values_in_bin}
use Rattle.job.specs.Values.{Valuation, all_passed, body_value, chosen, formula_value, sample_at, value}
use Rattle.job.specs.WellFormed.{IsFormula, IsJob, IsReadable}
use Rattle.job.proofs.Agreeing.{All-left, All-right}
use Rattle.job.proofs.BoxLaws.{passed_in_box}
use Rattle.job.proofs.Steps.{All-from_map, other_each}
use Rattle.job.proofs.TotalLaws.{filtered_same, map_same, points_inside}
use Rattle.joined_formulas.specs.Joins.{AreFormulasOf, Joins}
use Rattle.joined_formulas.specs.declared.known.StageFormula.{StageFormula}
use Rattle.normal_jobs.specs.StandIns.{StandsForCase, StandsForOther, StandsForBody, StandsForSums}

module _ (known : List StageFormula) (job : Pipeline) (whole : IsJob job) (of : AreFormulasOf job known) where
  -- the values of the job
  abbrev env : Valuation
  env = value job

  module _ (r c : ℤ) (row : FitsSigned w32 r) (col : FitsSigned w32 c) where
    -- the value of a formula, if there is one
    abbrev chosen_value : Option Formula → ℤ
    chosen_value o = option_map_or (λ f. formula_value env f r c) o (pos 0)

    same_formula : (f g : Formula) → Joins known f g → IsFormula f → EachRead (IsReadable job.stages) f r c → formula_value env g r c ≡ formula_value env f r c
    same_formula f g z is reads = (z.stands job whole of).value r c is row col reads

    first_same : (passed : Bool) (f g : Formula) (o u : Option Formula) → (passed ≡ true → formula_value env g r c ≡ formula_value env f r c)
        → chosen_value u ≡ chosen_value o
        → chosen_value (if passed then Some g else u) ≡ chosen_value (if passed then Some f else o)
    first_same true f g o u here others = here refl
    first_same false f g o u here others = others

    module _ (domain : Area) (inside : HoldsPoint domain r c) where
      passed_same : (p q : JobCase) → StandsForCase known p q → p.box ≡ box_of domain p.tests → CaseReads (IsReadable job.stages) p r c → IsFormula p.formula
          → all_passed p.tests r c ≡ true → formula_value env q.formula r c ≡ formula_value env p.formula r c
      passed_same p q z boxed reads is passed =
          let there = passed_in_box domain p.tests r c inside passed in
          same_formula p.formula q.formula z.formula is (reads there.0 (boxed ∙ there.1) there.2)

      cases_same : (ps qs : List JobCase) → AllZip (StandsForCase known) ps qs → All (λ p. p.box ≡ box_of domain p.tests) ps
          → All (λ p. CaseReads (IsReadable job.stages) p r c) ps → All (λ p. IsFormula p.formula) ps → (o u : Option Formula)
          → chosen_value u ≡ chosen_value o → chosen_value (chosen qs u r c) ≡ chosen_value (chosen ps o r c)
      cases_same [] [] z boxed reads is o u other = other
      cases_same [] (q ∷ qs) z boxed reads is o u other = absurd z
      cases_same (p ∷ ps) [] z boxed reads is o u other = absurd z
      cases_same (p ∷ ps) (q ∷ qs) z boxed reads is o u other =
          let rest : chosen_value (chosen qs u r c) ≡ chosen_value (chosen ps o r c) =
          cases_same ps qs z.1 (All-tail (λ v. v.box ≡ box_of domain v.tests) p ps boxed) (All-tail (λ v. CaseReads (IsReadable job.stages) v r c) p ps reads)
          (All-tail (λ v. IsFormula v.formula) p ps is) o u other in
          ap (λ (ts : List Test). chosen_value (if all_passed ts r c then Some q.formula else chosen qs u r c)) z.0.tests
          ∙ first_same (all_passed p.tests r c) p.formula q.formula (chosen ps o r c) (chosen qs u r c)
          (passed_same p q z.0 (All-head (λ v. v.box ≡ box_of domain v.tests) p ps boxed) (All-head (λ v. CaseReads (IsReadable job.stages) v r c) p ps reads)
          (All-head (λ v. IsFormula v.formula) p ps is))
          rest

    other_same : (o u : Option Formula) → StandsForOther known o u → ForSome o (λ f. EachRead (IsReadable job.stages) f r c) → ForSome o IsFormula
        → chosen_value u ≡ chosen_value o
    other_same None None z reads is = refl
    other_same None (Some g) z reads is = absurd z
    other_same (Some f) None z reads is = absurd z
    other_same (Some f) (Some g) z reads is = same_formula f g z (is f refl) (reads f refl)

    pub value_stays : (picture : Image) (domain : Area) (b d : Body) → StandsForBody known b d → AreBoxed domain b → All IsFormula (formulas_of b)
        → HoldsPoint domain r c → BodyReads (IsReadable job.stages) b r c → body_value picture env d r c ≡ body_value picture env b r c
    value_stays picture domain (plane n) (plane m) z boxed is inside reads = ap (λ (k : ℕ). sample_at picture k r c) z
    value_stays picture domain (plane n) (function others other) z boxed is inside reads = absurd z
    value_stays picture domain (plane n) (accumulator other ends amount place) z boxed is inside reads = absurd z
    value_stays picture domain (function cases otherwise) (plane m) z boxed is inside reads = absurd z
    value_stays picture domain (function cases otherwise) (function others other) z boxed is inside reads =
        let of : List Formula = map (λ p. p.formula) cases in
        cases_same domain inside cases others z.0 boxed reads.0
        (All-from_map IsFormula (λ p. p.formula) cases (All-left IsFormula of (other_formula otherwise) is)) otherwise other
        (other_same otherwise other z.1 reads.1 (other_each IsFormula otherwise (All-right IsFormula of (other_formula otherwise) is)))
    value_stays picture domain (function cases otherwise) (accumulator other ends amount place) z boxed is inside reads = absurd z
    value_stays picture domain (accumulator fold bins value bin) (plane m) z boxed is inside reads = absurd z
    value_stays picture domain (accumulator fold bins value bin) (function others other) z boxed is inside reads = absurd z
    value_stays picture domain (accumulator fold bins value bin) (accumulator other ends amount place) z boxed is inside reads = refl

  -- ---- totals

  module _ (area : Area) (is : IsArea area)
      (fits : (r c : ℤ) → HoldsPoint area r c → FitsSigned w32 r × FitsSigned w32 c) where
    binned_same : (value amount bin place : Formula) → Joins known value amount → Joins known bin place → IsFormula value → IsFormula bin
        → ((r c : ℤ) → HoldsPoint area r c → EachRead (IsReadable job.stages) value r c × EachRead (IsReadable job.stages) bin r c) → (b : ℤ)
        → values_in_bin env amount place area b ≡ values_in_bin env value bin area b
    binned_same value amount bin place z w one other reads b =
        filtered_same (λ t. formula_value env amount t.0 t.1) (λ t. formula_value env value t.0 t.1)
        (λ t. int_eq (formula_value env place t.0 t.1) b) (λ t. int_eq (formula_value env bin t.0 t.1) b) (points_of area)
        (All-weaker (λ t. HoldsPoint area t.0 t.1) (λ t. (formula_value env amount t.0 t.1 ≡ formula_value env value t.0 t.1)
        × (int_eq (formula_value env place t.0 t.1) b ≡ int_eq (formula_value env bin t.0 t.1) b))
        (λ t inside. let both = reads t.0 t.1 inside in let fit = fits t.0 t.1 inside in (
          (z.stands job whole of).value t.0 t.1 one fit.0 fit.1 both.0,
          ap (λ (v : ℤ). int_eq v b) ((w.stands job whole of).value t.0 t.1 other fit.0 fit.1 both.1),
        ))
        (points_of area) (points_inside area is))

    sums_same : (fold other : ReductionOp) (bins ends : Ends) (value amount bin place : Formula)
        → StandsForSums known fold other bins ends value amount bin place → IsFormula value → IsFormula bin
        → ((r c : ℤ) → HoldsPoint area r c → EachRead (IsReadable job.stages) value r c × EachRead (IsReadable job.stages) bin r c)
        → body_totals env area (accumulator other ends amount place) ≡ body_totals env area (accumulator fold bins value bin)
    sums_same fold other bins ends value amount bin place z one another reads =
        ap (λ (e : Ends). map (λ b. total_of other (values_in_bin env amount place area b)) (numbers_of e)) z.range
        ∙ ap (λ (w : ReductionOp). map (λ b. total_of w (values_in_bin env amount place area b)) (numbers_of bins)) z.way
        ∙ map_same (λ b. total_of fold (values_in_bin env amount place area b)) (λ b. total_of fold (values_in_bin env value bin area b))
        (numbers_of bins) (λ b. ap (total_of fold) (binned_same value amount bin place z.amounts z.places one another reads b))

    pub totals_stay : (b d : Body) → StandsForBody known b d → All IsFormula (formulas_of b)
        → ((r c : ℤ) → HoldsPoint area r c → BodyReads (IsReadable job.stages) b r c) → body_totals env area d ≡ body_totals env area b
    totals_stay (plane n) (plane m) z formulas reads = refl
    totals_stay (plane n) (function others other) z formulas reads = absurd z
    totals_stay (plane n) (accumulator other ends amount place) z formulas reads = absurd z
    totals_stay (function cases otherwise) (plane m) z formulas reads = absurd z
    totals_stay (function cases otherwise) (function others other) z formulas reads = refl
    totals_stay (function cases otherwise) (accumulator other ends amount place) z formulas reads = absurd z
    totals_stay (accumulator fold bins value bin) (plane m) z formulas reads = absurd z
    totals_stay (accumulator fold bins value bin) (function others other) z formulas reads = absurd z
    totals_stay (accumulator fold bins value bin) (accumulator other ends amount place) z formulas reads =
        sums_same fold other bins ends value amount bin place z (All-head IsFormula value (bin ∷ []) formulas)
        (All-head IsFormula bin [] (All-tail IsFormula value (bin ∷ []) formulas)) reads
