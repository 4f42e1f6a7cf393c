-- A job with more functions behind its own stages answers what the job answers.
use Rattle.std.proofs.Common.{ℕ, zero, suc, ◌<◌, ◌≡◌, ℤ, List, [], ◌∷◌, ◌++◌, Option, Some, None, length, map, slice_get, ap, sym, ◌∙◌, refl}
use Rattle.std.specs.Prelude.{All, slice_index}
use Rattle.std.specs.Option.{ForSome, option_map, option_map_or}
use Rattle.std.proofs.lemmas.List.Elements.{All-head, All-tail, All-weaker}
use Rattle.domains.specs.Area.{HoldsPoint, IsArea, points_of}
use Rattle.domains.specs.Span.{len_of}
use Rattle.job.specs.Answers.{height_of, width_of, image, picture_of, sample_of, samples, samples_over}
use Rattle.job.specs.OtherStages.{with_stages}
use Rattle.job.specs.Pipeline.{Body, plane, function, accumulator, Stage, Output, Pipeline}
use Rattle.job.specs.Reads.{SameAt}
use Rattle.job.specs.Totals.{body_totals, totals}
use Rattle.job.specs.Values.{Valuation, value}
use Rattle.job.specs.WellFormed.{IsFunction, IsJob, IsOutput, IsOutputPlane, IsReadable, IsValued}
use Rattle.job.proofs.TotalLaws.{body_totals-agrees, points_inside}
use Rattle.part_stages.proofs.Weaker.{reads_weaker}
use Rattle.part_stages.proofs.Behind.{map_within, nth_left, there_left}

pub function_valued : (b : Body) → IsFunction b → IsValued b
function_valued (plane n) is = absurd is
function_valued (function cases otherwise) is = tt
function_valued (accumulator fold bins value bin) is = absurd is

-- functions have no totals
no_totals : (env : Valuation) (s : Stage) → IsFunction s.body → body_totals env s.domain s.body ≡ []
no_totals env s is = none s.body is
  where
    none : (b : Body) → IsFunction b → body_totals env s.domain b ≡ []
    none (plane n) is = absurd is
    none (function cases otherwise) is = refl
    none (accumulator fold bins value bin) is = absurd is

-- ---- totals, stage by stage

-- what is computed of the stage of a number is the same where the stages behind give nothing
same_in_longer : {Y : Type 0} (f h : Stage → Y) (d : Y) (ss more : List Stage) (k : ℕ)
    → ((g : ℕ) (s : Stage) → slice_get ss g ≡ Some s → h s ≡ f s) → All (λ s. h s ≡ d) more
    → option_map_or h (slice_get (ss ++ more) k) d ≡ option_map_or f (slice_get ss k) d
same_in_longer f h d [] [] k own none = refl
same_in_longer f h d [] (s ∷ more) zero own none = All-head (λ t. h t ≡ d) s more none
same_in_longer f h d [] (s ∷ more) (suc k) own none = same_in_longer f h d [] more k own (All-tail (λ t. h t ≡ d) s more none)
same_in_longer f h d (s ∷ ss) more zero own none = own zero s refl
same_in_longer f h d (s ∷ ss) more (suc k) own none = same_in_longer f h d ss more k (λ g. own (suc g)) none

module _ (job : Pipeline) (more : List Stage) (is : IsJob job) (functions : All (λ s. IsFunction s.body) more)
    (same : (g : ℕ) (r c : ℤ) → IsReadable job.stages g r c → value (with_stages (job.stages ++ more) job) g r c ≡ value job g r c) where
  abbrev longer : Pipeline
  longer = with_stages (job.stages ++ more) job

  area_of : (g : ℕ) (s : Stage) → slice_get job.stages g ≡ Some s → IsArea s.domain
  area_of g s there = record { rows = (is.stages g s there).rows.span; cols = (is.stages g s there).cols.span }

  stage_totals : (g : ℕ) (s : Stage) → slice_get job.stages g ≡ Some s
      → body_totals (value longer) s.domain s.body ≡ body_totals (value job) s.domain s.body
  stage_totals g s there =
      body_totals-agrees (value longer) (value job) s.domain (area_of g s there) s.body (λ r c inside.
      reads_weaker (IsReadable job.stages) (SameAt (value longer) (value job)) same s.body r c ((is.stages g s there).reads r c inside))

  pub totals_longer : (g : ℕ) → totals longer g ≡ totals job g
  totals_longer g =
      same_in_longer (λ s. body_totals (value job) s.domain s.body) (λ s. body_totals (value longer) s.domain s.body) [] job.stages more g
      stage_totals
      (All-weaker (λ s. IsFunction s.body) (λ s. body_totals (value longer) s.domain s.body ≡ []) (no_totals (value longer)) more functions)

  -- ---- the picture

  over_same : (max g : ℕ) (s : Stage) → slice_get job.stages g ≡ Some s → IsFunction s.body
      → samples_over longer max g s.domain ≡ samples_over job max g s.domain
  over_same max g s there is_function =
      map_within (λ p. sample_of max (value longer g p.0 p.1)) (λ p. sample_of max (value job g p.0 p.1)) (points_of s.domain)
      (All-weaker (λ p. HoldsPoint s.domain p.0 p.1)
      (λ p. sample_of max (value longer g p.0 p.1) ≡ sample_of max (value job g p.0 p.1))
      (λ p inside. ap (sample_of max) (same g p.0 p.1
      (record { stage = s; there = there; valued = function_valued s.body is_function; within = inside })))
      (points_of s.domain) (points_inside s.domain (area_of g s there)))

  samples_same : (max height width g : ℕ) → IsOutputPlane job height width g → samples longer max g ≡ samples job max g
  samples_same max height width g of =
      ap (λ (o : Option Stage). option_map_or (λ s. samples_over longer max g s.domain) o []) (there_left job.stages more g of.stage of.there)
      ∙ over_same max g of.stage of.there of.function
      ∙ sym (ap (λ (o : Option Stage). option_map_or (λ s. samples_over job max g s.domain) o []) of.there)

  planes_same : (o : Output) → IsOutput job o → map (samples longer o.max) o.stages ≡ map (samples job o.max) o.stages
  planes_same o of =
      map_within (samples longer o.max) (samples job o.max) o.stages
      (All-weaker (IsOutputPlane job (height_of job (slice_index o.stages 0)) (width_of job (slice_index o.stages 0)))
      (λ g. samples longer o.max g ≡ samples job o.max g)
      (samples_same o.max (height_of job (slice_index o.stages 0)) (width_of job (slice_index o.stages 0))) o.stages of.equal_sides)

  picture_same : (o : Output) → IsOutput job o → slice_index o.stages 0 < length job.stages → picture_of longer o ≡ picture_of job o
  picture_same o of below = λ i. record {
    rows = option_map_or (λ s. len_of s.domain.rows) (nth_left job.stages more (slice_index o.stages 0) below i) 0;
    cols = option_map_or (λ s. len_of s.domain.cols) (nth_left job.stages more (slice_index o.stages 0) below i) 0;
    max = o.max;
    planes = planes_same o of i;
  }

  pub image_longer : ((o : Output) → IsOutput job o → slice_index o.stages 0 < length job.stages) → image longer ≡ image job
  image_longer below = output_same job.output is.output
    where
      output_same : (o : Option Output) → ForSome o (IsOutput job) → option_map (picture_of longer) o ≡ option_map (picture_of job) o
      output_same None of = refl
      output_same (Some o) of = ap Some (picture_same o (of o refl) (below o (of o refl)))
