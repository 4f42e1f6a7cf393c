-- What stands for a stage reads what that reads.
use Rattle.std.proofs.Common.{ℕ, ℤ, List, Option, Some, None, subst, sym, ◌∙◌, refl}
use Rattle.std.specs.Option.{ForSome}
use Rattle.std.proofs.lemmas.Option.{none-some, same_Some}
use Rattle.domains.specs.Area.{HoldsPoint}
use Rattle.domains.specs.declared.area.Area.{Area}
use Rattle.job.specs.Formula.{Formula}
use Rattle.job.specs.Pipeline.{JobCase, Body, plane, function, accumulator, Stage, Pipeline}
use Rattle.job.specs.Reads.{EachRead, CaseReads, BodyReads}
use Rattle.job.specs.WellFormed.{IsJob, IsReadable, IsValued}
use Rattle.joined_formulas.specs.Joins.{AreFormulasOf}
use Rattle.joined_formulas.specs.declared.known.StageFormula.{StageFormula}
use Rattle.normal_jobs.specs.StandIns.{StandsForCase, StandsForOther, StandsForBody, StandsForStage, StandForStages}
use Rattle.normal_jobs.proofs.Zipped.{After, find_after, zip_all}

module _ (known : List StageFormula) where
  -- ---- stages that can be read

  pub valued_stays : (b d : Body) → StandsForBody known b d → IsValued b → IsValued d
  valued_stays (plane n) (plane m) z is = tt
  valued_stays (plane n) (function others other) z is = absurd z
  valued_stays (plane n) (accumulator other ends amount place) z is = absurd z
  valued_stays (function cases otherwise) (plane m) z is = absurd z
  valued_stays (function cases otherwise) (function others other) z is = tt
  valued_stays (function cases otherwise) (accumulator other ends amount place) z is = absurd z
  valued_stays (accumulator fold bins value bin) d z is = absurd is

  pub valued_back : (b d : Body) → StandsForBody known b d → IsValued d → IsValued b
  valued_back (plane n) d z is = tt
  valued_back (function cases otherwise) d z is = tt
  valued_back (accumulator fold bins value bin) (plane m) z is = absurd z
  valued_back (accumulator fold bins value bin) (function others other) z is = absurd z
  valued_back (accumulator fold bins value bin) (accumulator other ends amount place) z is = absurd is

  pub readable_stays : (ss ts : List Stage) → StandForStages known ss ts → (g : ℕ) (r c : ℤ) → IsReadable ss g r c → IsReadable ts g r c
  readable_stays ss ts z g r c x =
      let found : After (StandsForStage known) ts g x.stage = find_after (StandsForStage known) ss ts z g x.stage x.there in
      record {
        stage = found.item;
        there = found.there;
        valued = valued_stays x.stage.body found.item.body found.related.body x.valued;
        within = subst (λ (a : Area). HoldsPoint a r c) (sym found.related.domain) x.within;
      }

  -- ---- what is read in the job

  module _ (job : Pipeline) (whole : IsJob job) (of : AreFormulasOf job known) where
    case_reads_stay : (r c : ℤ) (p q : JobCase) → StandsForCase known p q → CaseReads (IsReadable job.stages) p r c → CaseReads (IsReadable job.stages) q r c
    case_reads_stay r c p q z reads = λ box is inside. (z.formula.stands job whole of).reads r c (reads box (sym z.box ∙ is) inside)

    other_reads_stay : (r c : ℤ) (o u : Option Formula) → StandsForOther known o u → ForSome o (λ f. EachRead (IsReadable job.stages) f r c)
        → ForSome u (λ f. EachRead (IsReadable job.stages) f r c)
    other_reads_stay r c None None z reads = λ f is. absurd (none-some f is)
    other_reads_stay r c None (Some g) z reads = absurd z
    other_reads_stay r c (Some f) None z reads = absurd z
    other_reads_stay r c (Some f) (Some g) z reads =
        λ h is. subst (λ (k : Formula). EachRead (IsReadable job.stages) k r c) (same_Some g h is) ((z.stands job whole of).reads r c (reads f refl))

    pub body_reads_stay : (r c : ℤ) (b d : Body) → StandsForBody known b d → BodyReads (IsReadable job.stages) b r c → BodyReads (IsReadable job.stages) d r c
    body_reads_stay r c (plane n) (plane m) z reads = tt
    body_reads_stay r c (plane n) (function others other) z reads = absurd z
    body_reads_stay r c (plane n) (accumulator other ends amount place) z reads = absurd z
    body_reads_stay r c (function cases otherwise) (plane m) z reads = absurd z
    body_reads_stay r c (function cases otherwise) (function others other) z reads = (
      zip_all (StandsForCase known) (λ p. CaseReads (IsReadable job.stages) p r c) (λ q. CaseReads (IsReadable job.stages) q r c) (case_reads_stay r c) cases others z.0 reads.0,
      other_reads_stay r c otherwise other z.1 reads.1,
    )
    body_reads_stay r c (function cases otherwise) (accumulator other ends amount place) z reads = absurd z
    body_reads_stay r c (accumulator fold bins value bin) (plane m) z reads = absurd z
    body_reads_stay r c (accumulator fold bins value bin) (function others other) z reads = absurd z
    body_reads_stay r c (accumulator fold bins value bin) (accumulator other ends amount place) z reads = (
      (z.amounts.stands job whole of).reads r c reads.0,
      (z.places.stands job whole of).reads r c reads.1,
    )
