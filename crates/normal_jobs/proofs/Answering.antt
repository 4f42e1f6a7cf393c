-- A job whose stages stand for those of another one answers what that answers: the values of the one solve the other.
use Rattle.std.proofs.Common.{ℕ, ◌≡◌, ℤ, List, [], ◌∷◌, Option, Some, None, FitsSigned, w32, map, ap, sym, subst, ◌∙◌, refl}
use Rattle.std.specs.Prelude.{slice_get, slice_index}
use Rattle.std.specs.Option.{ForSome, option_map, option_map_or}
use Rattle.std.proofs.lemmas.List.Elements.{All-weaker}
use Rattle.domains.specs.Area.{HoldsPoint, IsArea, points_of}
use Rattle.domains.specs.declared.area.Area.{Area}
use Rattle.job.specs.Answers.{height_of, width_of, picture_of, sample_of, samples, samples_over}
use Rattle.job.specs.OtherStages.{with_stages}
use Rattle.job.specs.Pipeline.{Body, plane, function, accumulator, Stage, Output, Pipeline}
use Rattle.job.specs.Reads.{IsRanked, SameAt}
use Rattle.job.specs.Totals.{body_totals}
use Rattle.job.specs.Values.{value}
use Rattle.job.specs.WellFormed.{IsFunction, IsJob, IsOutput, IsOutputPlane, IsReadable, IsStage, Solves}
use Rattle.job.proofs.Solving.{near_fits, one_solution, ranked_is, value_solves}
use Rattle.job.proofs.TotalLaws.{body_totals-agrees, points_inside}
use Rattle.joined_formulas.specs.Joins.{AreFormulasOf}
use Rattle.joined_formulas.specs.declared.known.StageFormula.{StageFormula}
use Rattle.part_stages.proofs.Behind.{map_within}
use Rattle.part_stages.proofs.LongerAnswers.{function_valued}
use Rattle.part_stages.proofs.Weaker.{reads_weaker}
use Rattle.normal_jobs.specs.Alike.{AnswersAlike, IsSameKind, LookAlike}
use Rattle.normal_jobs.specs.StandIns.{StandsForBody, StandsForStage, StandForStages}
use Rattle.normal_jobs.proofs.Begins.{begins_alike, begins_itself}
use Rattle.normal_jobs.proofs.StayingJobs.{height_stays, job_stays, width_stays}
use Rattle.normal_jobs.proofs.Reading.{body_reads_stay, readable_stays, valued_back}
use Rattle.normal_jobs.proofs.Valued.{totals_stay, value_stays}
use Rattle.normal_jobs.proofs.Zipped.{After, Before, find_after, find_before, same_at}

area_of_stage : (job : Pipeline) (s : Stage) → IsStage job s → IsArea s.domain
area_of_stage job s is = record { rows = is.rows.span; cols = is.cols.span }

-- ---- a job itself

pub answers_itself : (job : Pipeline) → AnswersAlike job job
answers_itself job = record { stages = begins_itself job.stages; values = λ g r c is. refl; image = refl; totals = λ g. refl }

module _ (known : List StageFormula) where
  -- ---- what stands for stages looks like them

  stands_alike : (b d : Body) → StandsForBody known b d → IsSameKind b d
  stands_alike (plane n) (plane m) z = z
  stands_alike (plane n) (function others other) z = absurd z
  stands_alike (plane n) (accumulator other ends amount place) z = absurd z
  stands_alike (function cases otherwise) (plane m) z = absurd z
  stands_alike (function cases otherwise) (function others other) z = tt
  stands_alike (function cases otherwise) (accumulator other ends amount place) z = absurd z
  stands_alike (accumulator fold bins value bin) (plane m) z = absurd z
  stands_alike (accumulator fold bins value bin) (function others other) z = absurd z
  stands_alike (accumulator fold bins value bin) (accumulator other ends amount place) z = (z.way, z.range)

  look_alike : (ss ts : List Stage) → StandForStages known ss ts → LookAlike ss ts
  look_alike [] [] z = tt
  look_alike [] (t ∷ ts) z = absurd z
  look_alike (s ∷ ss) [] z = absurd z
  look_alike (s ∷ ss) (t ∷ ts) z = (
    record { name = z.0.name; domain = z.0.domain; body = stands_alike s.body t.body z.0.body },
    look_alike ss ts z.1,
  )

  module _ (job : Pipeline) (whole : IsJob job) (of : AreFormulasOf job known) (ts : List Stage) (ranked : IsRanked ts)
      (z : StandForStages known job.stages ts) where
    -- the other job
    abbrev other : Pipeline
    other = with_stages ts job

    other_whole : IsJob other
    other_whole = job_stays known job ts z whole of ranked

    point_fits : (g : ℕ) (s : Stage) → slice_get job.stages g ≡ Some s → (r c : ℤ) → HoldsPoint s.domain r c
        → FitsSigned w32 r × FitsSigned w32 c
    point_fits g s there r c inside = (
      near_fits s.domain.rows r (whole.stages g s there).rows inside.0,
      near_fits s.domain.cols c (whole.stages g s there).cols inside.1,
    )

    solves : Solves other (value job)
    solves g t there valued r c inside =
        let found : Before (StandsForStage known) job.stages g t = find_before (StandsForStage known) job.stages ts z g t there in
        let s : Stage = found.item in
        let within : HoldsPoint s.domain r c = subst (λ (a : Area). HoldsPoint a r c) found.related.domain inside in
        let fit = point_fits g s found.there r c within in
        let stage : IsStage job s = whole.stages g s found.there in
        value_solves job (ranked_is job whole) g s found.there (valued_back known s.body t.body found.related.body valued) r c within
        ∙ sym (value_stays known job whole of r c fit.0 fit.1 job.picture s.domain s.body t.body found.related.body stage.boxes stage.formulas
        within (stage.reads r c within))

    values_same : (g : ℕ) (r c : ℤ) → IsReadable job.stages g r c → value other g r c ≡ value job g r c
    values_same g r c is =
        sym (one_solution other other_whole (value job) solves g r c (readable_stays known job.stages ts z g r c is))

    -- ---- the picture

    over_same : (max g : ℕ) (s : Stage) → slice_get job.stages g ≡ Some s → IsFunction s.body
        → samples_over other max g s.domain ≡ samples_over job max g s.domain
    over_same max g s there is_function =
        map_within (λ p. sample_of max (value other g p.0 p.1)) (λ p. sample_of max (value job g p.0 p.1)) (points_of s.domain)
        (All-weaker (λ p. HoldsPoint s.domain p.0 p.1)
        (λ p. sample_of max (value other g p.0 p.1) ≡ sample_of max (value job g p.0 p.1))
        (λ p inside. ap (sample_of max) (values_same g p.0 p.1
        (record { stage = s; there = there; valued = function_valued s.body is_function; within = inside })))
        (points_of s.domain) (points_inside s.domain (area_of_stage job s (whole.stages g s there))))

    samples_same : (max height width g : ℕ) → IsOutputPlane job height width g → samples other max g ≡ samples job max g
    samples_same max height width g at =
        let found : After (StandsForStage known) ts g at.stage = find_after (StandsForStage known) job.stages ts z g at.stage at.there in
        ap (λ (o : Option Stage). option_map_or (λ s. samples_over other max g s.domain) o []) found.there
        ∙ ap (λ (a : Area). samples_over other max g a) found.related.domain
        ∙ over_same max g at.stage at.there at.function
        ∙ sym (ap (λ (o : Option Stage). option_map_or (λ s. samples_over job max g s.domain) o []) at.there)

    planes_same : (o : Output) → IsOutput job o → map (samples other o.max) o.stages ≡ map (samples job o.max) o.stages
    planes_same o at =
        map_within (samples other o.max) (samples job o.max) o.stages
        (All-weaker (IsOutputPlane job (height_of job (slice_index o.stages 0)) (width_of job (slice_index o.stages 0)))
        (λ g. samples other o.max g ≡ samples job o.max g)
        (samples_same o.max (height_of job (slice_index o.stages 0)) (width_of job (slice_index o.stages 0))) o.stages at.equal_sides)

    picture_same : (o : Output) → IsOutput job o → picture_of other o ≡ picture_of job o
    picture_same o at = λ i. record {
      rows = height_stays known job ts z (slice_index o.stages 0) i;
      cols = width_stays known job ts z (slice_index o.stages 0) i;
      max = o.max;
      planes = planes_same o at i;
    }

    output_same : (o : Option Output) → ForSome o (IsOutput job) → option_map (picture_of other) o ≡ option_map (picture_of job) o
    output_same None at = refl
    output_same (Some o) at = ap Some (picture_same o (at o refl))

    -- ---- totals

    stage_totals_same : (g : ℕ) (s t : Stage) → slice_get job.stages g ≡ Some s → StandsForStage known s t
        → body_totals (value other) t.domain t.body ≡ body_totals (value job) s.domain s.body
    stage_totals_same g s t there stands =
        let stage : IsStage job s = whole.stages g s there in
        ap (λ (a : Area). body_totals (value other) a t.body) stands.domain
        ∙ body_totals-agrees (value other) (value job) s.domain (area_of_stage job s stage) t.body (λ r c inside.
        reads_weaker (IsReadable job.stages) (SameAt (value other) (value job)) values_same t.body r c
        (body_reads_stay known job whole of r c s.body t.body stands.body (stage.reads r c inside)))
        ∙ totals_stay known job whole of s.domain (area_of_stage job s stage) (point_fits g s there) s.body t.body stands.body
        stage.formulas stage.reads

    pub answers_alike : AnswersAlike job other
    answers_alike =
        record {
          stages = begins_alike job.stages ts (look_alike job.stages ts z);
          values = values_same;
          image = output_same job.output whole.output;
          totals = λ g.
              same_at (StandsForStage known) (λ s. body_totals (value job) s.domain s.body)
              (λ s. body_totals (value other) s.domain s.body) [] job.stages ts z g (stage_totals_same g);
        }
