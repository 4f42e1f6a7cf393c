-- Planes that are made row by row.
use Rattle.std.proofs.Common.{arith, ℕ, ℤ, pos, negsuc, ◌≡◌, ◌+◌, ◌<◌, ◌≤◌, ◌+ℤ◌, ◌≤ℤ◌, refl, sym, ap, ◌∙◌, subst, Some, None}
use Rattle.std.proofs.Common.{List, ◌++◌, append_assoc, length, map}
use Rattle.std.specs.Prelude.{slice_get}
use Rattle.std.specs.Option.{option_map}
use Rattle.std.proofs.lemmas.Option.{none-some, same_Some}
use Rattle.std.proofs.lemmas.Int.{ints}
use Rattle.std.proofs.lemmas.List.{map-append}
use Rattle.std.proofs.lemmas.Simd.{map-map}
use Rattle.domains.specs.Span.{Holds, len_of, numbers_from}
use Rattle.domains.specs.Area.{HoldsPoint, points_of}
use Rattle.domains.specs.declared.area.Area.{Area}
use Rattle.domains.proofs.Covers.{tile_is}
use Rattle.job.specs.Answers.{grid_of}
use Rattle.job.specs.Pipeline.{Pipeline, Stage}
use Rattle.job.specs.Values.{Valuation}
use Rattle.job.specs.WellFormed.{IsJob}
use Rattle.tile_eval.specs.Rows.{EachPlace, at}
use Rattle.tile_eval.proofs.Rasters.{nth_held}
use Rattle.tile_eval.proofs.RowByRow.{line_is}
use Rattle.tile_sources.specs.KnownTiles.{KnownTiles, IsGivenAt, IsGivenLine}
use Rattle.tile_sources.proofs.GivenLines.{grid_is}
use Rattle.pictures.specs.Pictures.{samples_from, IsLentStage}
use Rattle.pictures.specs.GivenAreas.{IsGivenArea}
use Rattle.pictures.proofs.PictureOfAnswer.{sample_at, samples_are}
use Rattle.tile_eval.proofs.SpansByParts.{numbers-append}

-- the points of a row of an area that is given
pub row_given : (job : Pipeline) (given : KnownTiles) (g : ℕ) (area : Area) → IsGivenArea job given g area
    → (row first : ℤ) (place count : ℕ) → place < len_of area.rows → row ≡ area.rows.lo +ℤ pos place → first ≡ area.cols.lo
    → count ≡ len_of area.cols → IsGivenLine job given g row first count
row_given job given g area is row first place count within at_row at_first long = record {
  stage = is.stage;
  there = is.there;
  whole = is.whole;
  points = λ k l. is.points row (first +ℤ pos k) (
    subst (λ (z : ℤ). Holds area.rows z) (sym at_row) (nth_held area.rows place within),
    subst (λ (z : ℤ). Holds area.cols (z +ℤ pos k)) (sym at_first) (nth_held area.cols k (subst (λ n. k < n) long l)),
  );
}

-- ---- along a row

module _ (job : Pipeline) (given : KnownTiles) (g : ℕ) (row first : ℤ) (count : ℕ) (line : IsGivenLine job given g row first count) where
  -- columns are few
  pub line_bounds : IsJob job → (done : ℕ) → done < count → (negsuc 1048575 ≤ℤ first) × ((first +ℤ pos done) ≤ℤ pos 1048576)
  line_bounds good done within =
      let cols = (grid_is job good g line.stage line.there).area.cols in
      let least = cols.least in
      let most = cols.most in
      let low = (line.points 0 (omega (arith, within))).0.1.0 in
      let high = (line.points done within).0.1.1 in
      (omega (arith, ints), omega (arith, ints))

  -- the points from a later column on
  pub line_rest : (row' from : ℤ) (done left : ℕ) → row' ≡ row → from ≡ first +ℤ pos done → done + left ≤ count
      → IsGivenLine job given g row' from left
  line_rest row' from done left at_row at_first le = record {
    stage = line.stage;
    there = line.there;
    whole = line.whole;
    points = λ k l.
        let further : first +ℤ pos (done + k) ≡ from +ℤ pos k = omega (arith, ints) in
        let held : IsGivenAt given g (grid_of job line.stage) row (from +ℤ pos k) =
        subst (IsGivenAt given g (grid_of job line.stage) row) further (line.points (done + k) (omega arith)) in
        subst (λ (z : ℤ). IsGivenAt given g (grid_of job line.stage) z (from +ℤ pos k)) (sym at_row) held;
  }

-- a row whose numbers are cut as far as it is done goes on with a part of its numbers
pub cut_on : (f : ℤ → ℤ) (cut : ℤ → ℕ) (first from : ℤ) (done : ℕ) (part : List ℤ) (all made more : List ℕ) → from ≡ first +ℤ pos done
    → EachPlace (length part) (λ k. at part k ≡ f (from +ℤ pos k)) → made ≡ all ++ map (λ z. cut (f z)) (numbers_from first done)
    → more ≡ made ++ map cut part → more ≡ all ++ map (λ z. cut (f z)) (numbers_from first (done + length part))
cut_on f cut first from done part all made more at_first numbers is so =
    let h : ℤ → ℕ = λ z. cut (f z) in
    let n : ℕ = length part in
    let before : List ℤ = numbers_from first done in
    let after : List ℤ = numbers_from (first +ℤ pos done) n in
    so
    ∙ ap (λ (xs : List ℤ). made ++ map cut xs) (line_is f from n part refl numbers)
    ∙ ap (λ (xs : List ℕ). made ++ xs) (map-map cut f (numbers_from from n))
    ∙ (λ i. is i ++ map h (numbers_from (at_first i) n))
    ∙ append_assoc all (map h before) (map h after)
    ∙ ap (λ (xs : List ℕ). all ++ xs) (sym (map-append h before after) ∙ ap (map h) (sym (numbers-append first done n)))

-- ---- a whole domain

module _ (job : Pipeline) (given : KnownTiles) (g : ℕ) (domain : Area) (lent : IsLentStage job given g)
    (there : option_map (λ (s : Stage). s.domain) (slice_get job.stages g) ≡ Some domain) where
  own_domain : lent.0.domain ≡ domain
  own_domain = same_Some lent.0.domain domain (sym (ap (option_map (λ (s : Stage). s.domain)) lent.1.there) ∙ there)

  -- the points of the domain are given
  pub domain_given : IsJob job → IsGivenArea job given g domain
  domain_given good = record {
    stage = lent.0;
    there = lent.1.there;
    whole = lent.1.whole;
    points = λ r c h.
        let inside : HoldsPoint lent.0.domain r c = subst (λ (a : Area). HoldsPoint a r c) (sym own_domain) h in
        (inside, lent.1.all _ _ (tile_is (grid_of job lent.0) r c (grid_is job good g lent.0 lent.1.there) inside).there);
  }

  -- what is cut of its numbers is its plane
  pub plane_is : (env : Valuation) (max : ℕ) → map (sample_at env max g) (points_of domain) ≡ samples_from job env max g
  plane_is env max =
      ap (λ (a : Area). map (sample_at env max g) (points_of a)) (sym own_domain) ∙ sym (samples_are job env max g lent.0 lent.1.there)

-- a stage that is lent has a domain
pub some_domain : (job : Pipeline) (given : KnownTiles) (g : ℕ) → IsLentStage job given g
    → option_map (λ (s : Stage). s.domain) (slice_get job.stages g) ≡ None → ⊥
some_domain job given g lent none = none-some lent.0.domain (sym none ∙ ap (option_map (λ (s : Stage). s.domain)) lent.1.there)
