-- The picture of a job, from the planes of its output's functions.
use Rattle.std.proofs.Common.{◌≡◌, ◌≤◌, ◌*◌, ◌||◌, ℕ, ℤ, pos, inl, inr, Bool, true, false, eqb, List, [], ◌∷◌, Option, Some}
use Rattle.std.proofs.Common.{length, map, unsigned_abs, refl, sym, ap, ◌∙◌, subst, arith}
use Rattle.std.specs.Prelude.{All, Contains, slice_get, slice_index, slice_index_or}
use Rattle.std.specs.Int.{int_min, int_max}
use Rattle.std.specs.List.{list_any}
use Rattle.std.specs.Option.{option_map_or}
use Rattle.std.proofs.lemmas.Bool.{eq-eqb, true≢false}
use Rattle.std.proofs.lemmas.Int.{ints}
use Rattle.std.proofs.lemmas.List.{length-map}
use Rattle.std.proofs.lemmas.List.Elements.{All-contains, All-map, All-weaker}
use Rattle.domains.proofs.Areas.{counts_points}
use Rattle.domains.proofs.PairLists.{Contains-cases}
use Rattle.domains.specs.Area.{points_of}
use Rattle.netpbm.specs.Image.{image, IsImage, IsPlane}
use Rattle.tile_boxes.specs.Schedules.{is_inlined, is_function_body, IsSchedule}
use Rattle.job.specs.Answers.{height_of, is_output, sample_of, width_of}
use Rattle.job.specs.Pipeline.{Body, plane, function, accumulator, Output, Pipeline, Stage}
use Rattle.job.specs.Values.{Valuation}
use Rattle.job.specs.WellFormed.{IsFunction, IsJob, IsOutput, IsOutputPlane}
use Rattle.overlap_tiles.proofs.Lists.{All-from_contains}
use Rattle.std.proofs.lemmas.Option.{same_Some}
use Rattle.tile_sources.specs.KnownTiles.{KnownTiles, AreWhole}
use Rattle.tile_run.specs.Stored.{IsStoredFunction, GivesAllTiles}
use Rattle.pictures.specs.Pictures.{picture_from, picture_with, samples_from, IsLentStage, GivesOutputs}

-- ---- samples

least_of : (a : ℤ) (max : ℕ) → unsigned_abs (int_min (int_max a (pos 0)) (pos max)) ≤ max
least_of a max = grind (arith, ints)

sample_most : (max : ℕ) (v : ℤ) → sample_of max v ≤ max
sample_most max v = least_of v max

-- no value is cut to a sample above the greatest
pub cuts_bounded : (max : ℕ) (vs : List ℤ) → All (λ sample. sample ≤ max) (map (sample_of max) vs)
cuts_bounded max vs = All-map (λ n. n ≤ max) (sample_of max) vs (λ k v within. sample_most max (slice_index_or vs k v))

abbrev pub sample_at : Valuation → ℕ → ℕ → ℤ × ℤ → ℕ
sample_at env max g p = sample_of max (env g p.0 p.1)

-- nor is any of the samples at these points
pub samples_bounded : (env : Valuation) (max g : ℕ) (ps : List (ℤ × ℤ)) → All (λ sample. sample ≤ max) (map (sample_at env max g) ps)
samples_bounded env max g ps = All-map (λ n. n ≤ max) (sample_at env max g) ps (λ k p within.
    let q = slice_index_or ps k p in sample_most max (env g q.0 q.1))

pub samples_are : (job : Pipeline) (env : Valuation) (max g : ℕ) (s : Stage) → slice_get job.stages g ≡ Some s
    → samples_from job env max g ≡ map (sample_at env max g) (points_of s.domain)
samples_are job env max g s there =
    ap (λ o. option_map_or (λ (t : Stage). map (sample_at env max g) (points_of t.domain)) o []) there

-- ---- the picture

samples_plane : (job : Pipeline) (env : Valuation) (max height width g : ℕ) → IsOutputPlane job height width g
    → IsPlane (height * width) max (samples_from job env max g)
samples_plane job env max height width g is =
    let s = is.stage in
    let count : height * width ≡ length (points_of s.domain) = counts_points (height * width) s.domain
    (λ i. sym is.rows i * sym is.cols i) in
    subst (IsPlane (height * width) max) (sym (samples_are job env max g s is.there)) (record {
      whole = length-map (points_of s.domain) (sample_at env max g) ∙ sym count;
      bounded = All-map (λ n. n ≤ max) (sample_at env max g) (points_of s.domain)
          (λ k p within. sample_most max (let at = slice_index_or (points_of s.domain) k p in env g at.0 at.1));
    })

pub is_picture : (job : Pipeline) (env : Valuation) (o : Output) → IsOutput job o → IsImage (picture_from job env o)
is_picture job env o is =
    let h = height_of job (slice_index o.stages 0) in
    let w = width_of job (slice_index o.stages 0) in
    let count : length (map (samples_from job env o.max) o.stages) ≡ length o.stages = length-map o.stages (samples_from job env o.max) in
    record {
      rows = is.height;
      cols = is.width;
      max = is.max;
      colours = elim is.planes [ inl e ↦ inl (count ∙ e) | inr e ↦ inr (count ∙ e) ];
      planes =
          All-map (IsPlane (h * w) o.max) (samples_from job env o.max) o.stages
          (All-weaker (IsOutputPlane job h w) (λ g. IsPlane (h * w) o.max (samples_from job env o.max g))
          (λ g. samples_plane job env o.max h w g)
          o.stages is.equal_sides);
    }

pub same_picture : (job : Pipeline) (o : Output) (rows cols max : ℕ) (planes : List (List ℕ)) → rows ≡ height_of job (slice_index o.stages 0)
    → cols ≡ width_of job (slice_index o.stages 0) → max ≡ o.max → image rows cols max planes ≡ picture_with job o planes
same_picture job o rows cols max planes high wide most = (λ i. image (high i) (wide i) (most i) planes)

-- planes of an output that are those of env make a picture
pub planes_picture : (job : Pipeline) (env : Valuation) (o : Output) (planes : List (List ℕ)) → IsOutput job o
    → planes ≡ map (samples_from job env o.max) o.stages → IsImage (picture_with job o planes)
planes_picture job env o planes is made =
    subst (λ (x : List (List ℕ)). IsImage (picture_with job o x)) (sym made) (is_picture job env o is)

-- ---- outputs are stored

any_of : (xs : List ℕ) (g : ℕ) → Contains xs g → list_any (λ h. eqb h g) xs ≡ true
any_of [] g h = absurd (omega (arith, h.1))
any_of (x ∷ xs) g h = elim (Contains-cases x xs g h) [
  | inl e ↦ first (eqb x g) (list_any (λ k. eqb k g) xs) (eq-eqb x g e)
  | inr k ↦ last (eqb x g) (list_any (λ k. eqb k g) xs)
      (any_of xs g k)
]
  where
    first : (a b : Bool) → a ≡ true → (a || b) ≡ true
    first true b e = refl
    first false b e = absurd (true≢false (sym e))

    last : (a b : Bool) → b ≡ true → (a || b) ≡ true
    last true b e = refl
    last false b e = e

a_function : (b : Body) → IsFunction b → is_function_body b ≡ true
a_function (plane n) is = absurd is
a_function (function cases otherwise) is = refl
a_function (accumulator fold bins value bin) is = absurd is

not_inlined : (b : Bool) → (b ≡ true → ⊥) → b ≡ false
not_inlined true h = absurd (h refl)
not_inlined false h = refl

-- a stage of the output is one
pub is_among : (job : Pipeline) (o : Output) (g : ℕ) → job.output ≡ Some o → Contains o.stages g → is_output job g ≡ true
is_among job o g there has =
    ap (λ (x : Option Output). option_map_or (λ y. list_any (λ h. eqb h g) y.stages) x false) there ∙ any_of o.stages g has

-- a stage of the output is a function, and is not inlined
pub output_stored : (job : Pipeline) (inlining : List Bool) (o : Output) (g : ℕ) (s : Stage) → IsSchedule job inlining
    → job.output ≡ Some o → IsOutput job o → Contains o.stages g → slice_get job.stages g ≡ Some s → IsStoredFunction job inlining g s
output_stored job inlining o g s schedule there is has found =
    let own = All-contains (IsOutputPlane job (height_of job (slice_index o.stages 0)) (width_of job (slice_index o.stages 0)))
    o.stages g is.equal_sides has in
    record {
      there = found;
      function =
          ap (λ (t : Stage). is_function_body t.body) (same_Some s own.stage (sym found ∙ own.there))
          ∙ a_function own.stage.body own.function;
      stored = not_inlined (is_inlined inlining g) (λ inlined. true≢false (sym (is_among job o g there has) ∙ schedule.inner g inlined));
    }

-- where all stored functions are given, and true, the stages of the output are lent
pub outputs_lent : (job : Pipeline) (inlining : List Bool) (given : KnownTiles) → IsJob job → IsSchedule job inlining
    → GivesAllTiles job inlining given → AreWhole job given → GivesOutputs job given
outputs_lent job inlining given good schedule all whole o there =
    let is : IsOutput job o = good.output o there in
    All-from_contains (IsLentStage job given) o.stages (λ g has.
    let own = All-contains (IsOutputPlane job (height_of job (slice_index o.stages 0)) (width_of job (slice_index o.stages 0)))
    o.stages g is.equal_sides has in
    let stored = output_stored job inlining o g own.stage schedule there is has own.there in (
      own.stage,
      record {
        there = own.there;
        all = λ i j tile. (_, all g own.stage stored i j tile);
        whole = whole g own.stage own.there;
      },
    ))
