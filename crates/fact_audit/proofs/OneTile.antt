-- A tile has one area and one list of numbers, and these fit.
use Rattle.std.proofs.Common.{ℕ, ℤ, ◌≡◌, Bool, true, false, List, [], Option, Some, None, length, slice_get, subst, sym, ap, ◌∙◌}
use Rattle.std.proofs.Common.{refl, true≢false, eq-eqb}
use Rattle.std.specs.Prelude.{◌↔◌, ◌==◌, IsTrue, IfSome, IfNone}
use Rattle.std.proofs.lemmas.Bool.{eqb-true}
use Rattle.std.specs.Option.{option_map_or}
use Rattle.std.proofs.lemmas.List.{length-map}
use Rattle.std.proofs.lemmas.Option.{same_Some, none-some}
use Rattle.reductions.specs.TruePartials.{IsAccumulatorTile, IsTruePartial}
use Rattle.domains.specs.Area.{point_count, points_of}
use Rattle.domains.specs.Span.{Ends, len_of, numbers_of}
use Rattle.domains.specs.Tiles.{tile_area}
use Rattle.domains.specs.declared.area.Area.{Area}
use Rattle.domains.proofs.Areas.{counts_points}
use Rattle.domains.proofs.Spans.{length-numbers_from}
use Rattle.job.specs.Answers.{grid_of, is_accumulator}
use Rattle.job.specs.Pipeline.{Body, plane, function, accumulator, Stage, Pipeline}
use Rattle.job.specs.Readers.{bins_of, stage_bins}
use Rattle.job.specs.Totals.{body_totals, totals_over}
use Rattle.job.specs.Values.{value}
use Rattle.job.specs.WellFormed.{IsFunction}
use Rattle.tile_eval.specs.Raster.{raster, IsTileOver, IsFunctionTile, IsTrueTile}
use Rattle.fact_audit.specs.Shapes.{IsTileShape, HasBins, IsPartialShape}

one_stage : (job : Pipeline) (g : ℕ) (s t : Stage) → slice_get job.stages g ≡ Some s → slice_get job.stages g ≡ Some t → s ≡ t
one_stage job g s t p q = same_Some s t (sym p ∙ q)

pub one_area : (job : Pipeline) (g i j : ℕ) (s t : Stage) (a b : Area) → IsTileOver job g i j s a → IsTileOver job g i j t b → a ≡ b
one_area job g i j s t a b p q =
    p.is ∙ ap (λ (x : Stage). tile_area (grid_of job x) i j) (one_stage job g s t p.there q.there) ∙ sym q.is

-- ---- tiles of functions

pub one_tile : (job : Pipeline) (g i j : ℕ) (xs ys : List ℤ) → IsTrueTile job g i j xs → IsTrueTile job g i j ys → xs ≡ ys
one_tile job g i j xs ys p q =
    p.values
    ∙ ap (λ (a : Area). raster a (value job g)) (one_area job g i j p.tile.stage q.tile.stage p.area q.area p.tile.tile q.tile.tile)
    ∙ sym q.values

pub tile_fits : (job : Pipeline) (g i j : ℕ) (xs : List ℤ) → IsTrueTile job g i j xs → IsTileShape job g i j xs
tile_fits job g i j xs p = record {
  area = p.area;
  tile = p.tile;
  count =
      ap length p.values ∙ length-map (points_of p.area) (λ at. value job g at.0 at.1)
      ∙ sym (counts_points (point_count p.area) p.area refl);
}

-- ---- tiles of accumulators

pub one_partial : (job : Pipeline) (g i j : ℕ) (xs ys : List ℤ) → IsTruePartial job g i j xs → IsTruePartial job g i j ys → xs ≡ ys
one_partial job g i j xs ys p q =
    p.totals ∙ ap (λ (a : Area). totals_over job a g) (one_area job g i j p.tile.stage q.tile.stage p.area q.area p.tile.tile q.tile.tile)
    ∙ sym q.totals

has_bins : (b : Body) → is_accumulator b ≡ true → (ends : Ends) × (bins_of b ≡ Some ends)
has_bins (plane n) e = absurd (true≢false (sym e))
has_bins (function cases otherwise) e = absurd (true≢false (sym e))
has_bins (accumulator way bins value bin) e = (bins, refl)

counted : (job : Pipeline) (area : Area) (b : Body) (ends : Ends) → bins_of b ≡ Some ends
    → length (body_totals (value job) area b) ≡ len_of ends
counted job area (plane n) ends e = absurd (none-some ends e)
counted job area (function cases otherwise) ends e = absurd (none-some ends e)
counted job area (accumulator way bins value' bin) ends e =
    length-map (numbers_of bins) _ ∙ length-numbers_from bins.lo (len_of bins) ∙ ap len_of (same_Some bins ends e)

pub partial_fits : (job : Pipeline) (g i j : ℕ) (xs : List ℤ) → IsTruePartial job g i j xs → IsPartialShape job g i j xs
partial_fits job g i j xs p =
    let b = has_bins p.tile.stage.body p.tile.accumulator in
    record {
      ends = b.0;
      has = record { area = p.area; tile = p.tile; are = b.1 };
      count =
          ap length
          (p.totals ∙ ap (λ (o : Option Stage). option_map_or (λ s. body_totals (value job) p.area s.body) o []) p.tile.tile.there)
          ∙ counted job p.area p.tile.stage.body b.0 b.1;
    }

-- ---- of one kind alone

pub no_both : (job : Pipeline) (g i j : ℕ) (a b : Area) → IsFunctionTile job g i j a → IsAccumulatorTile job g i j b → ⊥
no_both job g i j a b p q =
    apart q.stage.body (subst (λ (s : Stage). IsFunction s.body) (one_stage job g p.stage q.stage p.tile.there q.tile.there) p.function)
    q.accumulator
  where
    apart : (body : Body) → IsFunction body → is_accumulator body ≡ true → ⊥
    apart (plane n) f e = f
    apart (function cases otherwise) f e = true≢false (sym e)
    apart (accumulator way bins value bin) f e = f

-- ---- what tests tell

pub fits_where : (job : Pipeline) (g i j : ℕ) (xs : List ℤ) (area : Area) (r : Bool) → IsFunctionTile job g i j area
    → (IsTrue r ↔ (length xs ≡ point_count area))
    → IsTrue r ↔ IsTileShape job g i j xs
fits_where job g i j xs area r tile told = (
  (λ t. record { area = area; tile = tile; count = told.0 t }),
  (λ (p : IsTileShape job g i j xs). told.1
      (p.count ∙ ap point_count (one_area job g i j p.tile.stage tile.stage p.area area p.tile.tile tile.tile))),
)

pub one_bins : (job : Pipeline) (g i j : ℕ) (a b : Ends) → HasBins job g i j a → HasBins job g i j b → a ≡ b
one_bins job g i j a b p q =
    same_Some a b (sym p.are
    ∙ ap (λ (s : Stage). bins_of s.body) (one_stage job g p.tile.stage q.tile.stage p.tile.tile.there q.tile.tile.there) ∙ q.are)

pub bins_fit_where : (job : Pipeline) (g i j : ℕ) (xs : List ℤ) (ends : Ends) (r : Bool) → HasBins job g i j ends
    → (IsTrue r ↔ (length xs ≡ len_of ends))
    → IsTrue r ↔ IsPartialShape job g i j xs
bins_fit_where job g i j xs ends r has told = (
  (λ t. record { ends = ends; has = has; count = told.0 t }),
  (λ (p : IsPartialShape job g i j xs). told.1 (p.count ∙ ap len_of (one_bins job g i j p.ends ends p.has has))),
)

pub counted_by : (m n k : ℕ) → n ≡ k → IsTrue (m == n) ↔ (m ≡ k)
counted_by m n k e = ((λ t. eqb-true m n t ∙ e), (λ h. eq-eqb m n (h ∙ sym e)))

pub never : {P : Type 0} → (P → ⊥) → IsTrue false ↔ P
never none = ((λ t. absurd (true≢false (sym t))), (λ p. absurd (none p)))

-- ---- bins of a tile that is there

pub bins_some : (job : Pipeline) (g i j : ℕ) (area : Area) (found : Option Ends) → IsAccumulatorTile job g i j area
    → found ≡ stage_bins (slice_get job.stages g)
    → IfSome found (HasBins job g i j)
bins_some job g i j area None tile e = tt
bins_some job g i j area (Some ends) tile e = record { area = area; tile = tile; are = sym (ap stage_bins tile.tile.there) ∙ sym e }

pub bins_none : (job : Pipeline) (g i j : ℕ) (found : Option Ends) → found ≡ stage_bins (slice_get job.stages g)
    → IfNone found ((ends : Ends) → ¬ (HasBins job g i j ends))
bins_none job g i j (Some ends) e = tt
bins_none job g i j None e = λ ends p. none-some ends (e ∙ ap stage_bins p.tile.tile.there ∙ p.are)
