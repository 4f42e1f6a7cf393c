-- Where what is given is true, the picture that it gives is the job's.
use Rattle.std.proofs.Common.{ℕ, ◌≡◌, refl, sym, ap, ◌∙◌, Option, Some, None, List, [], ◌∷◌, map}
use Rattle.std.specs.Prelude.{All, slice_index}
use Rattle.std.specs.Option.{option_map}
use Rattle.std.proofs.lemmas.List.Elements.{All-head, All-tail, All-weaker}
use Rattle.domains.specs.Area.{points_of}
use Rattle.domains.specs.declared.area.Area.{Area}
use Rattle.domains.proofs.Areas.{Contains-points_of}
use Rattle.job.specs.Answers.{height_of, image, picture_of, sample_of, samples, width_of}
use Rattle.job.specs.Pipeline.{Output, Pipeline}
use Rattle.job.specs.Values.{value}
use Rattle.job.specs.WellFormed.{IsJob}
use Rattle.overlap_tiles.proofs.Lists.{All-from_contains}
use Rattle.tile_sources.specs.KnownTiles.{KnownTiles, AreTrue, given_at}
use Rattle.tile_sources.proofs.GivenLines.{true_number}
use Rattle.pictures.specs.Pictures.{samples_from, picture_from, given_image, IsLentStage, GivesOutputs}
use Rattle.pictures.proofs.PictureOfAnswer.{sample_at, samples_are}
use Rattle.tile_eval.proofs.NearAreas.{domain_is_area}

pub map_all : {X Y : Type 0} (f h : X → Y) (xs : List X) → All (λ x. f x ≡ h x) xs → map f xs ≡ map h xs
map_all f h [] same = refl
map_all f h (x ∷ xs) same =
    let first = All-head (λ y. f y ≡ h y) x xs same in
    let rest = map_all f h xs (All-tail (λ y. f y ≡ h y) x xs same) in
    λ i. first i ∷ rest i

module _ (job : Pipeline) (given : KnownTiles) (good : IsJob job) (right : AreTrue job given) where
  pub same_samples : (max g : ℕ) → IsLentStage job given g → samples_from job (given_at job given) max g ≡ samples job max g
  same_samples max g lent =
      let domain : Area = lent.0.domain in
      samples_are job (given_at job given) max g lent.0 lent.1.there
      ∙ map_all (sample_at (given_at job given) max g) (sample_at (value job) max g) (points_of domain)
      (All-from_contains (λ p. sample_at (given_at job given) max g p ≡ sample_at (value job) max g p) (points_of domain) (λ p has.
      ap (sample_of max) (true_number job good given right g lent.0 lent.1 p.0 p.1
      ((Contains-points_of domain p.0 p.1 (domain_is_area job good g lent.0 lent.1.there)).0 has))))
      ∙ sym (samples_are job (value job) max g lent.0 lent.1.there)

  same_picture : (o : Output) → All (IsLentStage job given) o.stages → picture_from job (given_at job given) o ≡ picture_of job o
  same_picture o lent =
      let planes : map (samples_from job (given_at job given) o.max) o.stages ≡ map (samples job o.max) o.stages =
      map_all (samples_from job (given_at job given) o.max) (samples job o.max) o.stages
      (All-weaker (IsLentStage job given) (λ g. samples_from job (given_at job given) o.max g ≡ samples job o.max g) (same_samples o.max)
      o.stages lent) in
      λ i. record {
        rows = height_of job (slice_index o.stages 0);
        cols = width_of job (slice_index o.stages 0);
        max = o.max;
        planes = planes i;
      }

  pub image_same : GivesOutputs job given → given_image job given ≡ image job
  image_same gives = by job.output refl
    where
      by : (o : Option Output) → job.output ≡ o → option_map (picture_from job (given_at job given)) o ≡ option_map (picture_of job) o
      by None is = refl
      by (Some o) is = ap Some (same_picture o (gives o is))

pub image_true : (job : Pipeline) (given : KnownTiles) → IsJob job → AreTrue job given → GivesOutputs job given
    → given_image job given ≡ image job
image_true job given good right gives = image_same job given good right gives
