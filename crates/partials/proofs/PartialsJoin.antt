-- What is read decides what an accumulator gathers: from what is at hand, from true tiles, and over all tiles.
use Rattle.std.proofs.Common.{ℕ, ◌≡◌, ℤ, Bool, List, [], Option, Some, slice_get, ap, sym, ◌∙◌, refl, subst}
use Rattle.std.specs.Prelude.{fold, IsPermutation}
use Rattle.std.specs.Option.{option_map_or}
use Rattle.std.specs.Ordering.{int_eq}
use Rattle.domains.specs.Area.{HoldsPoint, IsArea, IsSubarea}
use Rattle.domains.specs.Span.{Ends, numbers_of}
use Rattle.domains.specs.Tiles.{IsGrid, tile_area, tiles_of}
use Rattle.domains.specs.declared.area.Area.{Area}
use Rattle.domains.specs.declared.grid.Grid.{Grid}
use Rattle.operators.specs.declared.operator.ReductionOp.{ReductionOp}
use Rattle.job.specs.Answers.{grid_of}
use Rattle.job.specs.Formula.{Formula}
use Rattle.job.specs.Pipeline.{Body, plane, function, accumulator, Stage, Pipeline}
use Rattle.job.specs.Reads.{SameAt, BodyReads}
use Rattle.job.specs.Totals.{start_of, total_of, joined, values_in_bin, body_totals, totals, totals_over}
use Rattle.job.specs.Values.{Valuation, formula_value, value}
use Rattle.job.specs.WellFormed.{InDomainRange, IsJob}
use Rattle.job.proofs.TotalLaws.{map_same, body_totals-agrees}
use Rattle.overlap_tiles.specs.Plans.{TileLayout, IsTileLayout}
use Rattle.tile_sources.specs.KnownTiles.{KnownTiles, AreTrue}
use Rattle.one_tile.specs.Local.{read_from, local_value, IsAtHand, IsClosed}
use Rattle.one_tile.specs.declared.scratch_view.TileScratchView.{TileScratchView}
use Rattle.one_tile.specs.Prepared.{IsInputAt, IsPrepared, IsPreparedOn}
use Rattle.one_tile.proofs.LayoutsPrepare.{layout_steps, layout_area}
use Rattle.one_tile.proofs.ValuesAreLocal.{same_stage}
use Rattle.tile_eval.proofs.NearAreas.{near_inside}
use Rattle.one_tile.proofs.LocalValuesUnroll.{reads_weaker, read_true, local_is_value}
use Rattle.reductions.specs.Bins.{starts, joined_bins}
use Rattle.partials.specs.inside.LastSteps.{IsLastStep}
use Rattle.partials.specs.Partials.{local_totals, body_joined, joined_over}
use Rattle.reductions.proofs.WholeTotals.{totals_is}
use Rattle.tile_eval.proofs.NearAreas.{domain_is_area}
use Rattle.reductions.proofs.JoinInto.{joined_all}
use Rattle.reductions.proofs.TilesPartTotals.{tiles_join}

-- ---- a stage that is there

pub local_totals_is : (job : Pipeline) (inlining : List Bool) (given : KnownTiles) (area : Area) (g : ℕ) (s : Stage)
    → slice_get job.stages g ≡ Some s → local_totals job inlining given area g
    ≡ body_totals (read_from job inlining given (local_value job inlining given)) area s.body
local_totals_is job inlining given area g s there =
    ap (λ (o : Option Stage). option_map_or (λ t. body_totals (read_from job inlining given (local_value job inlining given)) area t.body)
    o []) there

totals_over_is : (job : Pipeline) (area : Area) (g : ℕ) (s : Stage) → slice_get job.stages g ≡ Some s
    → totals_over job area g ≡ body_totals (value job) area s.body
totals_over_is job area g s there = ap (λ (o : Option Stage). option_map_or (λ t. body_totals (value job) area t.body) o []) there

-- ---- where all that is read is at hand, in boxes of local values

module _ (job : Pipeline) (l : TileLayout) (given : KnownTiles) (boxes : TileScratchView) (g : ℕ) (s : Stage)
    (there : slice_get job.stages g ≡ Some s) (area : Area) (prepared : IsPrepared job l given boxes g area) where
  within : IsSubarea area s.domain
  within r c inside = let p = prepared r c inside in subst (λ (t : Stage). HoldsPoint t.domain r c)
      (same_stage job.stages g p.stage s p.there there) p.inside

  pub prepared_near : IsJob job → IsArea area → InDomainRange area.rows × InDomainRange area.cols
  prepared_near is h = let stage = is.stages g s there in near_inside area s.domain h within stage.rows stage.cols

  pub prepared_reads : (r c : ℤ) → HoldsPoint area r c → BodyReads (IsInputAt job l given boxes) s.body r c
  prepared_reads r c inside =
      let p = prepared r c inside in
      subst (λ (t : Stage). BodyReads (IsInputAt job l given boxes) t.body r c) (same_stage job.stages g p.stage s p.there there) p.reads

-- the last step of a tile's layout is the tile's
module _ (job : Pipeline) (l : TileLayout) (given : KnownTiles) (g i j : ℕ) (own : IsTileLayout job l.inlining g i j l) (step : ℕ × Area)
    (last : IsLastStep l.steps step) where
  step_is : step ≡ (g, own.area)
  step_is = last _ _ (layout_steps job l.inlining given l g i j own)

  pub step_area : IsJob job → IsArea step.1
  step_area good = subst (λ (s : ℕ × Area). IsArea s.1) (sym step_is) (layout_area job l.inlining given l g i j own good)

module _ (job : Pipeline) (l : TileLayout) (given : KnownTiles) (boxes : TileScratchView) (g i j : ℕ) (own : IsTileLayout job l.inlining g i j l)
    (step : ℕ × Area) (last : IsLastStep l.steps step) where
  pub step_prepared : ((k m n : ℕ) → IsTileLayout job l.inlining k m n l → IsPreparedOn job l given boxes k m n)
      → IsPrepared job l given boxes step.0 step.1
  step_prepared all =
      subst (λ (s : ℕ × Area). IsPrepared job l given boxes s.0 s.1) (sym (step_is job l given g i j own step last))
      (all g i j own own.area own.tile)

-- where what is given is true, what is gathered from it is what the stage gathers there
pub true_totals : (job : Pipeline) (inlining : List Bool) (given : KnownTiles) (Inner : ℕ → ℤ → ℤ → Type 0)
    (g : ℕ) (s : Stage) (area : Area) → IsJob job → slice_get job.stages g ≡ Some s → IsArea area → AreTrue job given
    → IsClosed job inlining given Inner → ((r c : ℤ) → HoldsPoint area r c → BodyReads (IsAtHand job inlining given Inner) s.body r c)
    → local_totals job inlining given area g ≡ totals_over job area g
true_totals job inlining given Inner g s area is there within true_tiles closed reads =
    let e : Valuation = read_from job inlining given (local_value job inlining given) in
    local_totals_is job inlining given area g s there
    ∙ body_totals-agrees e (value job) area within s.body (λ r c inside.
    reads_weaker (IsAtHand job inlining given Inner) (SameAt e (value job))
    (λ k i j hand. read_true job is inlining given true_tiles Inner k i j
    (local_is_value job is inlining given true_tiles Inner closed k i j) hand) s.body r c (reads r c inside))
    ∙ sym (totals_over_is job area g s there)

-- ---- over all tiles

-- the totals over the tiles, joined in any order, are the totals
module _ (job : Pipeline) (grid : Grid) (tiles : List (ℕ × ℕ)) (is : IsGrid grid) (moved : IsPermutation (tiles_of grid) tiles) (g : ℕ)
  where
    bins_join : (way : ReductionOp) (bins : Ends) (v bin : Formula)
        → fold (λ xs t. joined_bins way xs (body_totals (value job) (tile_area grid t.0 t.1) (accumulator way bins v bin)))
        (starts way bins)
        tiles ≡ body_totals (value job) grid.area (accumulator way bins v bin)
    bins_join way bins v bin =
        joined_all way (λ b. start_of way)
        (λ (t : ℕ × ℕ) (b : ℤ). total_of way (values_in_bin (value job) v bin (tile_area grid t.0 t.1) b))
        (numbers_of bins) tiles
        ∙ map_same (λ b. fold (λ a (t : ℕ × ℕ). joined way a (total_of way (values_in_bin (value job) v bin (tile_area grid t.0 t.1) b)))
        (start_of way) tiles) (λ b. total_of way (values_in_bin (value job) v bin grid.area b)) (numbers_of bins)
        (λ b. tiles_join way (λ p. formula_value (value job) v p.0 p.1) (λ p. int_eq (formula_value (value job) bin p.0 p.1) b) grid tiles
        is
        moved)

pub partials_join_to_answer_in_any_order : (job : Pipeline) (g : ℕ) (s : Stage) (tiles : List (ℕ × ℕ)) → IsJob job → slice_get job.stages g ≡ Some s
    → IsPermutation (tiles_of (grid_of job s)) tiles → joined_over job g (grid_of job s) tiles ≡ totals job g
partials_join_to_answer_in_any_order job g s tiles is there moved =
    ap (λ (o : Option Stage). option_map_or (λ t. body_joined job g grid tiles t.body) o []) there
    ∙ by_body s.body refl
    ∙ sym (totals_is job g s there)
  where
    grid : Grid
    grid = grid_of job s

    good : IsGrid grid
    good = record { area = domain_is_area job is g s there; sides = is.sides }

    by_body : (b : Body) → s.body ≡ b → body_joined job g grid tiles b ≡ body_totals (value job) s.domain b
    by_body (plane n) e = refl
    by_body (function cases otherwise) e = refl
    by_body (accumulator way bins v bin) e =
        let over : (t : ℕ × ℕ) → totals_over job (tile_area grid t.0 t.1) g
        ≡ body_totals (value job) (tile_area grid t.0 t.1) (accumulator way bins v bin) =
        λ t. totals_over_is job (tile_area grid t.0 t.1) g s there ∙ ap (body_totals (value job) (tile_area grid t.0 t.1)) e in
        (λ i. fold (λ xs (t : ℕ × ℕ). joined_bins way xs (over t i)) (starts way bins) tiles)
        ∙ bins_join job grid tiles good moved g way bins v bin
