-- Stages that are known give the values of the job.
use Rattle.std.proofs.Common.{arith, ℕ, zero, suc, ◌≡◌, ◌<◌, ◌⊎◌, inl, inr, ℤ, List, [], ◌∷◌, Option, Some, None, length, set}
use Rattle.std.proofs.Common.{replicate, slice_get, Bor, true, subst, sym, ap, ◌∙◌, refl}
use Rattle.std.specs.Prelude.{All, IfSome}
use Rattle.std.specs.Option.{is_some, option_map_or}
use Rattle.std.proofs.lemmas.Bool.{cases_eq, true≢false}
use Rattle.std.proofs.lemmas.List.Elements.{All-weaker}
use Rattle.std.proofs.lemmas.Option.{same_Some, none-some, slice_get_within}
use Rattle.domains.specs.Area.{HoldsPoint, point_count}
use Rattle.domains.specs.Index.{index_at}
use Rattle.domains.specs.declared.area.Area.{Area}
use Rattle.job.specs.Formula.{Formula}
use Rattle.job.specs.Pipeline.{Body, JobCase, Stage, Pipeline, plane, function, accumulator}
use Rattle.job.specs.Values.{Valuation, kernel_row, kernel_column, body_value, sample_at, value}
use Rattle.job.specs.Readers.{body_kind}
use Rattle.job.specs.declared.job.StageKind.TheVariants.{Accumulator}
use Rattle.job.specs.Reads.{Read, point, window, stage_read, reads_of, EachTaken, SameAt, BodyReads}
use Rattle.job.specs.WellFormed.{IsReadable, IsValued, IsBody, IsJob, picture_area}
use Rattle.job.proofs.Solving.{body_value-agrees_there, BodyReads-both, ranked_is, value_solves}
use Rattle.row_loops.specs.Rows.{at}
use Rattle.tile_eval.specs.Cases.{function_value}
use Rattle.tile_eval.specs.Raster.{raster, values_on, stage_values, place_of}
use Rattle.whole_stages.specs.Known.{sample_in, body_area, stage_area, IsKnown}
use Rattle.whole_stages.specs.Known.{IsKnownAt, IsWholeOf, AreTrue, AreKnownOf, BodyServed, IsServed}
use Rattle.whole_stages.specs.inside.Kept.{IsKept, HasInputs, KnowsMore}
use Rattle.whole_stages.specs.declared.buffers.StageBuffer.{StageBuffer}
use Rattle.tile_eval.proofs.Rasters.{raster_len, raster_at, raster_same}

-- ---- the values of a stage

-- the values of a stage that is there
pub stage_values_is : (job : Pipeline) (g : ℕ) (s : Stage) → slice_get job.stages g ≡ Some s
    → stage_values job g ≡ values_on job g s.domain s.body
stage_values_is job g s there = ap (λ (o : Option Stage). option_map_or (λ t. values_on job g t.domain t.body) o []) there

-- the values of a stage that has some
pub values_on_is : (job : Pipeline) (g : ℕ) (domain : Area) (b : Body) → IsValued b → values_on job g domain b ≡ raster domain (value job g)
values_on_is job g domain (plane n) is = refl
values_on_is job g domain (function cases otherwise) is = refl
values_on_is job g domain (accumulator fold bins value bin) is = absurd is

-- a stage that has values has one at each point of its domain
pub values_long : (job : Pipeline) (g : ℕ) (s : Stage) → slice_get job.stages g ≡ Some s → IsValued s.body
    → length (stage_values job g) ≡ point_count s.domain
values_long job g s there valued =
    ap length (stage_values_is job g s there ∙ values_on_is job g s.domain s.body valued) ∙ raster_len s.domain (value job g)

-- ---- one stage

-- what has values has them on its domain
valued_domain : (domain area : Area) (b : Body) → body_area domain b ≡ Some area → IsValued b × (area ≡ domain)
valued_domain domain area (plane n) e = (tt, sym (same_Some domain area e))
valued_domain domain area (function cases otherwise) e = (tt, sym (same_Some domain area e))
valued_domain domain area (accumulator fold bins value bin) e = absurd (none-some area e)

domain_valued : (domain : Area) (b : Body) → IsValued b → body_area domain b ≡ Some domain
domain_valued domain (plane n) is = refl
domain_valued domain (function cases otherwise) is = refl
domain_valued domain (accumulator fold bins value bin) is = absurd is

pub whole_valued : (job : Pipeline) (g : ℕ) (s : Stage) (whole : StageBuffer) → slice_get job.stages g ≡ Some s → IsWholeOf job g whole
    → IsValued s.body × (whole.area ≡ s.domain)
whole_valued job g s whole there h = valued_domain s.domain whole.area s.body (sym (ap stage_area there) ∙ h.0)

-- the values are those of the stage of this number
pub whole_is : (job : Pipeline) (g : ℕ) (s : Stage) (whole : StageBuffer) → slice_get job.stages g ≡ Some s → IsWholeOf job g whole
    → (whole.area ≡ s.domain) × (whole.values.items ≡ raster s.domain (value job g))
whole_is job g s whole there h =
    let own = whole_valued job g s whole there h in
    (own.1, h.1 ∙ stage_values_is job g s there ∙ values_on_is job g s.domain s.body own.0)

-- ---- points

module _ (job : Pipeline) (buffers : List (Option StageBuffer)) (right : AreTrue job buffers) where
  -- what is read of a stage that is known is known
  pub known_there : (g : ℕ) → AreKnownOf job buffers g → (r c : ℤ) → IsReadable job.stages g r c → IsKnownAt buffers g r c
  known_there g known r c x =
      let found = known x.stage x.there x.valued in
      let is = whole_is job g x.stage found.0 x.there (right g found.0 found.1) in
      record { whole = found.0; there = found.1; within = subst (λ a. HoldsPoint a r c) (sym is.0) x.within }

  -- and its sample is the value of the job
  pub sample_there : (g : ℕ) → AreKnownOf job buffers g → (r c : ℤ) → IsReadable job.stages g r c
      → sample_in (slice_get buffers g) r c ≡ value job g r c
  sample_there g known r c x =
      let found = known x.stage x.there x.valued in
      let is = whole_is job g x.stage found.0 x.there (right g found.0 found.1) in
      ap (λ (o : Option (Option StageBuffer)). sample_in o r c) found.1
      ∙ ap (λ (xs : List ℤ). at xs (place_of found.0.area r c)) is.1
      ∙ ap (λ (a : Area). at (raster x.stage.domain (value job g)) (place_of a r c)) is.0
      ∙ raster_at x.stage.domain (value job g) r c x.within

-- ---- what a stage reads

module _ (job : Pipeline) (h : IsJob job) (P : ℕ → ℤ → ℤ → Type 0) (Q : ℕ → Type 0)
    (each : (g : ℕ) → Q g → (r c : ℤ) → IsReadable job.stages g r c → P g r c) where
  taken_known : (r c : ℤ) (x : Read) → Q (stage_read x) → EachTaken (IsReadable job.stages) x r c → EachTaken P x r c
  taken_known r c (point g i j) known there = each g known (index_at i r) (index_at j c) there
  taken_known r c (window g kernel) known there =
      λ a b la lb. each g known (kernel_row kernel r a) (kernel_column kernel c b) (there a b la lb)

  -- what holds of all points of some stages holds of all that is read, where no other stage is
  pub reads_known : (g : ℕ) (s : Stage) → slice_get job.stages g ≡ Some s → All (λ y. Q (stage_read y)) (reads_of s.body) → (r c : ℤ)
      → HoldsPoint s.domain r c → BodyReads P s.body r c
  reads_known g s there known r c inside =
      BodyReads-both (IsReadable job.stages) P (λ y. Q (stage_read y)) s.body r c (taken_known r c) known
      ((h.stages g s there).reads r c inside)

-- ---- values on domains

module _ (job : Pipeline) (h : IsJob job) (g : ℕ) (s : Stage) (there : slice_get job.stages g ≡ Some s) where
  -- a function of the samples of what is known has the values of the job
  pub functions_known : (buffers : List (Option StageBuffer)) → AreTrue job buffers → HasInputs job buffers g
      → (cases : List JobCase) (otherwise : Option Formula) → s.body ≡ function cases otherwise
      → raster s.domain (function_value (λ k r c. sample_in (slice_get buffers k) r c) cases otherwise) ≡ values_on job g s.domain s.body
  functions_known buffers right inputs cases otherwise is =
      let env : Valuation = λ k r c. sample_in (slice_get buffers k) r c in
      let valued : IsValued s.body = subst IsValued (sym is) tt in
      raster_same s.domain (function_value env cases otherwise) (value job g) (λ r c inside.
      ap (λ (b : Body). body_value job.picture env b r c) (sym is)
      ∙ body_value-agrees_there job.picture env (value job) s.domain s.body r c (h.stages g s there).boxes inside
      (reads_known job h (SameAt env (value job)) (AreKnownOf job buffers) (sample_there job buffers right) g s there (inputs s there) r c
      inside)
      ∙ sym (value_solves job (ranked_is job h) g s there valued r c inside))
      ∙ ap (values_on job g s.domain) (sym is)

  -- and so has a plane
  pub planes_known : (n : ℕ) → s.body ≡ plane n
      → raster (picture_area job.picture) (sample_at job.picture n) ≡ values_on job g s.domain s.body
  planes_known n is =
      let valued : IsValued s.body = subst IsValued (sym is) tt in
      ap (λ (a : Area). raster a (sample_at job.picture n)) (sym (plane_domain n is))
      ∙ raster_same s.domain (sample_at job.picture n) (value job g) (λ r c inside.
      ap (λ (b : Body). body_value job.picture (value job) b r c) (sym is)
      ∙ sym (value_solves job (ranked_is job h) g s there valued r c inside))
      ∙ ap (values_on job g s.domain) (sym is)
    where
      plane_domain : (n : ℕ) → s.body ≡ plane n → s.domain ≡ picture_area job.picture
      plane_domain n is = (subst (IsBody job.picture s.domain) is (h.stages g s there).body).1

-- ---- what is kept

-- what was computed for stage g is kept
pub kept_values : (job : Pipeline) (g : ℕ) (s : Stage) (whole : StageBuffer) → slice_get job.stages g ≡ Some s → IsValued s.body
    → whole.area ≡ s.domain → whole.values.items ≡ stage_values job g → IsKept job g (Some whole)
kept_values job g s whole there valued area values = record {
  right = λ other is. subst (IsWholeOf job g) (same_Some whole other is)
      (ap stage_area there ∙ domain_valued s.domain s.body valued ∙ ap Some (sym area), values);
  valued = λ t found is. (whole, refl);
}

-- a kind of stage that has values
pub valued_kind : (b : Body) → (body_kind b ≡ Accumulator → ⊥) → IsValued b
valued_kind (plane n) other = tt
valued_kind (function cases otherwise) other = tt
valued_kind (accumulator fold bins value bin) other = absurd (other refl)

none_there : (n g : ℕ) (whole : StageBuffer) → slice_get (replicate n None) g ≡ Some (Some whole) → ⊥
none_there zero g whole e = none-some _ e
none_there (suc n) zero whole e = none-some whole (same_Some _ _ e)
none_there (suc n) (suc g) whole e = none_there n g whole e

-- at first nothing is known
pub true_none : (job : Pipeline) (n : ℕ) → AreTrue job (replicate n None)
true_none job n g whole is = absurd (none_there n g whole is)

slice_get-set_same : {X : Type 0} (xs : List X) (i : ℕ) (y : X) → i < length xs → slice_get (set xs i y) i ≡ Some y
slice_get-set_same [] i y h = absurd (omega arith)
slice_get-set_same (x ∷ xs) zero y h = refl
slice_get-set_same (x ∷ xs) (suc i) y h = slice_get-set_same xs i y (omega arith)

slice_get-set_other : {X : Type 0} (xs : List X) (i j : ℕ) (y : X) → (j ≡ i → ⊥) → slice_get (set xs i y) j ≡ slice_get xs j
slice_get-set_other [] i j y h = refl
slice_get-set_other (x ∷ xs) zero zero y h = absurd (h refl)
slice_get-set_other (x ∷ xs) zero (suc j) y h = refl
slice_get-set_other (x ∷ xs) (suc i) zero y h = refl
slice_get-set_other (x ∷ xs) (suc i) (suc j) y h = slice_get-set_other xs i j y (λ e. h (ap suc e))

-- ---- one more is known

-- a stage whose values are at hand is there
pub whole_within : (job : Pipeline) (g : ℕ) (whole : StageBuffer) → IsWholeOf job g whole → g < length job.stages
whole_within job g whole h = by (slice_get job.stages g) refl h.0
  where
    by : (o : Option Stage) → slice_get job.stages g ≡ o → stage_area o ≡ Some whole.area → g < length job.stages
    by None is e = absurd (none-some whole.area e)
    by (Some s) is e = slice_get_within job.stages g s is

module _ (job : Pipeline) (g : ℕ) (old : List (Option StageBuffer)) (whole : StageBuffer) (is : IsWholeOf job g whole) (within : g < length old) where
  here : slice_get (set old g (Some whole)) g ≡ Some (Some whole)
  here = slice_get-set_same old g (Some whole) within

  pub put_true : AreTrue job old → AreTrue job (set old g (Some whole))
  put_true right k other found = by_place (cases_eq k g)
    where
      by_place : (k ≡ g) ⊎ (k ≡ g → ⊥) → IsWholeOf job k other
      by_place (inl e) =
          let same : Some whole ≡ Some other = same_Some _ _ (sym here ∙ sym (ap (slice_get (set old g (Some whole))) e) ∙ found) in
          subst (λ n. IsWholeOf job n other) (sym e) (subst (IsWholeOf job g) (same_Some whole other same) is)
      by_place (inr ne) = right k other (sym (slice_get-set_other old g k (Some whole) ne) ∙ found)

  pub put_more : KnowsMore old (set old g (Some whole))
  put_more k found = by_place (cases_eq k g)
    where
      by_place : (k ≡ g) ⊎ (k ≡ g → ⊥) → IsKnown (set old g (Some whole)) k
      by_place (inl e) = (whole, ap (slice_get (set old g (Some whole))) e ∙ here)
      by_place (inr ne) = (found.0, slice_get-set_other old g k (Some whole) ne ∙ found.1)

  pub put_serves : IsServed job (set old g (Some whole)) g
  put_serves s there = serves s.body (whole_valued job g s whole there is).0
    where
      serves : (b : Body) → IsValued b → BodyServed job (set old g (Some whole)) g b
      serves (plane n) valued = (whole, here)
      serves (function cases otherwise) valued = (whole, here)
      serves (accumulator fold bins value bin) valued = absurd valued

-- a stage that is known is served
pub known_serves : (job : Pipeline) (g : ℕ) (buffers : List (Option StageBuffer)) (whole : StageBuffer) → AreTrue job buffers
    → slice_get buffers g ≡ Some (Some whole) → IsServed job buffers g
known_serves job g buffers whole right found s there = serves s.body (whole_valued job g s whole there (right g whole found)).0
  where
    serves : (b : Body) → IsValued b → BodyServed job buffers g b
    serves (plane n) valued = (whole, found)
    serves (function cases otherwise) valued = (whole, found)
    serves (accumulator fold bins value bin) valued = absurd valued

pub some_serves : (job : Pipeline) (g : ℕ) (buffers : List (Option StageBuffer)) (found : Option (Bor StageBuffer)) → AreTrue job buffers
    → is_some found ≡ true → IfSome found (λ whole. slice_get buffers g ≡ Some (Some whole.now)) → IsServed job buffers g
some_serves job g buffers None right some there = absurd (true≢false (sym some))
some_serves job g buffers (Some whole) right some there = known_serves job g buffers whole.now right there

-- where nothing is kept of a stage, what it reads serves for it
pub inputs_serve : (job : Pipeline) (g : ℕ) (buffers : List (Option StageBuffer)) → HasInputs job buffers g → IsKept job g None
    → IsServed job buffers g
inputs_serve job g buffers inputs kept s there = serves s.body (inputs s there) (kept.valued s there)
  where
    serves : (b : Body) → All (λ x. AreKnownOf job buffers (stage_read x)) (reads_of b)
        → (IsValued b → (whole : StageBuffer) × (None ≡ Some whole)) → BodyServed job buffers g b
    serves (plane n) reads none = let found = none tt in absurd (none-some found.0 found.1)
    serves (function cases otherwise) reads none = let found = none tt in absurd (none-some found.0 found.1)
    serves (accumulator fold bins value bin) reads none = reads

-- what serves goes on to serve
pub more_serves : (job : Pipeline) (g : ℕ) (old new : List (Option StageBuffer)) → KnowsMore old new → IsServed job old g → IsServed job new g
more_serves job g old new more served s there = serves s.body (served s there)
  where
    serves : (b : Body) → BodyServed job old g b → BodyServed job new g b
    serves (plane n) known = more g known
    serves (function cases otherwise) known = more g known
    serves (accumulator fold bins value bin) known =
        All-weaker (λ x. AreKnownOf job old (stage_read x)) (λ x. AreKnownOf job new (stage_read x))
        (λ x known. λ t is valued. more (stage_read x) (known t is valued)) (reads_of (accumulator fold bins value bin)) known

-- what serves for a stage knows its values
pub served_known : (job : Pipeline) (g : ℕ) (buffers : List (Option StageBuffer)) → IsServed job buffers g → AreKnownOf job buffers g
served_known job g buffers served s there = known s.body (served s there)
  where
    known : (b : Body) → BodyServed job buffers g b → IsValued b → IsKnown buffers g
    known (plane n) own valued = own
    known (function cases otherwise) own valued = own
    known (accumulator fold bins value bin) own valued = absurd valued

-- ---- the values of what is served

-- a stage that is not known has no values
pub no_values : (job : Pipeline) (g : ℕ) (buffers : List (Option StageBuffer)) → IsServed job buffers g
    → ((whole : StageBuffer) → slice_get buffers g ≡ Some (Some whole) → ⊥) → [] ≡ stage_values job g
no_values job g buffers served none = by (slice_get job.stages g) refl
  where
    by_body : (s : Stage) (b : Body) → BodyServed job buffers g b → [] ≡ values_on job g s.domain b
    by_body s (plane n) known = absurd (none known.0 known.1)
    by_body s (function cases otherwise) known = absurd (none known.0 known.1)
    by_body s (accumulator fold bins value bin) known = refl

    by : (o : Option Stage) → slice_get job.stages g ≡ o → [] ≡ option_map_or (λ s. values_on job g s.domain s.body) o []
    by None is = refl
    by (Some s) is = by_body s s.body (served s is)
